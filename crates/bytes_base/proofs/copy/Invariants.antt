-- `bytes_base::copy` meets its contract. So far, the front holds what was copied and the rest is as it came.
-- Assumes nothing.
use Rattle.std.proofs.Common.{◌≡◌, ◌++◌, length, take, drop}
use Rattle.bytes_base.proofs.copy.Given as goal

abbrev pub invariant-loop-place : goal.invariant-loop-place
invariant-loop-place l = (length l.to ≡ length l.initial.to) × (l.to ≡ take l.place l.from ++ drop l.place l.initial.to)
