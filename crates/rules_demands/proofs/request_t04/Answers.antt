-- `rules_demands::request_t04` meets its contract: its first promise is a theorem of rules, the second follows, and the examples are computed.
-- Assumes nothing.
use Rattle.rules.proofs.page.Health.{request_T04}
use Rattle.rules_demands.proofs.Health.{written_out, health_held}
use Rattle.rules_demands.proofs.request_t04.Goals as goal

pub returns : goal.returns
returns c = record { request_t04 = request_T04; health_written_out = written_out; health_held = health_held }
