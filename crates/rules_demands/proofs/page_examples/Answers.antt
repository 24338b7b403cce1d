-- `rules_demands::page_examples` meets its contract, by computation over the definitions.
-- Assumes nothing.
use Rattle.rules_demands.proofs.Examples.{cases_held, texts_held}
use Rattle.rules_demands.proofs.page_examples.Goals as goal

pub returns : goal.returns
returns c = record { cases_held = cases_held; texts_held = texts_held }
