-- `rules_demands::request_t08` meets its contract: its first promise is a theorem of rules, the second follows, and the examples are computed.
-- Assumes nothing.
use Rattle.rules.proofs.page.TripsKept.{request_T08}
use Rattle.rules_demands.proofs.Trips.{written_out, trips_held}
use Rattle.rules_demands.proofs.request_t08.Goals as goal

pub returns : goal.returns
returns c = record { request_t08 = request_T08; trips_written_out = written_out request_T08; trips_held = trips_held }
