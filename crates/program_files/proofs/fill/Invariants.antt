-- `program_files::fill` meets its contract. What is filled stays within the buffer, and each turn fills more of it.
-- Assumes nothing.
use Rattle.std.proofs.Common.{◌≤◌, ◌-◌, length, ◌≡◌}
use Rattle.program_files.proofs.fill.Given as goal

abbrev pub invariant-loop-have : goal.invariant-loop-have
invariant-loop-have g l = (l.have ≤ length l.initial.buf) × (length l.buf ≡ length l.initial.buf)

abbrev pub decreases-loop-have : goal.decreases-loop-have
decreases-loop-have g l = length l.buf - l.have
