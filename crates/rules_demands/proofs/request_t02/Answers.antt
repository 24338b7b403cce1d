-- `rules_demands::request_t02` meets its contract: it is the theorem of rules, the same written out, and the examples.
-- Assumes nothing.
use Rattle.rules.proofs.page.Images.{request_T02}
use Rattle.rules_demands.proofs.Images.{written_out, images_held}
use Rattle.rules_demands.proofs.request_t02.Goals as goal

pub returns : goal.returns
returns c = record { request_t02 = request_T02; images_written_out = written_out; images_held = images_held }
