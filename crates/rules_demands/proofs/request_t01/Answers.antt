-- `rules_demands::request_t01` meets its contract: it is the theorem of rules, the same written out, and the examples.
-- Assumes nothing.
use Rattle.rules.proofs.page.Sums.{request_T01}
use Rattle.rules_demands.proofs.Reports.{written_out, reports_held}
use Rattle.rules_demands.proofs.request_t01.Goals as goal

pub returns : goal.returns
returns c = record { request_t01 = request_T01; reports_written_out = written_out; reports_held = reports_held }
