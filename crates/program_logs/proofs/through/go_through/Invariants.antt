-- `program_logs::go_through` meets its contract: what is still to come makes the whole, and each turn leaves fewer turns.
-- Assumes nothing.
use Rattle.std.proofs.Common.{◌≡◌}
use Rattle.program_logs.specs.declared.{Turn.TheVariants.{Nothing}, Logs.Logs}
use Rattle.program_logs.specs.Through.{Through}
use Rattle.program_logs.proofs.through.go_through.Given as goal

abbrev pub invariant-loop-next : goal.invariant-loop-next
invariant-loop-next g l =
    goal.W-IsAlwaysCallable g l.work
    × ((first : Logs) × (first.turn ≡ Nothing) × (first.argument ≡ 1)
    × ((r : _) → Through (goal.W-step g) l.work l.logs r → Through (goal.W-step g) l.fn.work first r))

abbrev pub decreases-loop-next : goal.decreases-loop-next
decreases-loop-next g l = l.logs.left
