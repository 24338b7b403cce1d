-- `rules_demands::request_t05` meets its contract: its first promise is a theorem of rules, the second follows, and the examples are computed.
-- Assumes nothing.
use Rattle.rules.proofs.page.Reserved.{request_T05}
use Rattle.rules_demands.proofs.Reserved.{written_out, reserved_held}
use Rattle.rules_demands.proofs.request_t05.Goals as goal

pub returns : goal.returns
returns c = record { request_t05 = request_T05; reserved_means_zero = written_out request_T05; reserved_held = reserved_held }
