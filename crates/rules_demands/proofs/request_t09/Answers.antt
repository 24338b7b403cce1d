-- `rules_demands::request_t09` meets its contract: its first promise is a theorem of rules, the second follows, and the examples are computed.
-- Assumes nothing.
use Rattle.rules.proofs.page.Unseen.{request_T09}
use Rattle.rules_demands.proofs.Modules.{written_out, starts_needed, modules_held}
use Rattle.rules_demands.proofs.request_t09.Goals as goal

pub returns : goal.returns
returns c = record { request_t09 = request_T09; modules_written_out = written_out request_T09; starts_needed = starts_needed; modules_held = modules_held }
