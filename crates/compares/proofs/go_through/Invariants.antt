-- `compares::go_through` meets its contract: what was counted so far stays in 64 bits.
-- Assumes nothing.
use Rattle.std.proofs.Common.{◌-◌}
use Rattle.compare_turns.specs.Turned.{Standing, most_turns}
use Rattle.compares.proofs.go_through.Given as goal

abbrev pub invariant-loop-turn : goal.invariant-loop-turn
invariant-loop-turn g l = Standing (most_turns - l.turn) l.told
