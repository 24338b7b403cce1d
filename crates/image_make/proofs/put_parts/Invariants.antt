-- `image_make::put_parts` meets its contract: past each record the front of the output holds the parts so far, and the rest is as it came.
-- Assumes nothing.
use Prim.Native.Nat.{◌≤◌, ◌-◌}
use mathlib.Core.Path.{◌≡◌}
use lib.ListN.{length}
use Rattle.rules.specs.Bytes.{splice}
use Rattle.rules.specs.Made.{carried}
use Rattle.image_make.proofs.put_parts.Given as goal

abbrev pub invariant-loop-i : goal.invariant-loop-i
invariant-loop-i l = (length l.output ≡ length l.initial.output) × (l.output ≡ splice 0 (carried l.i l.image) l.initial.output)
