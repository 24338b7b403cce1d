-- `rules_demands::request_t06` meets its contract: it is the theorem of rules, the same written out, and the examples.
-- Assumes nothing.
use Rattle.rules.proofs.page.Compared.{request_T06}
use Rattle.rules_demands.proofs.Comparisons.{written_out, comparisons_held}
use Rattle.rules_demands.proofs.request_t06.Goals as goal

pub returns : goal.returns
returns c = record { request_t06 = request_T06; comparisons_written_out = written_out; comparisons_held = comparisons_held }
