-- `answers_lines::put_numbers` meets its contract. A number takes at most 20 bytes and its space one, and the buffer keeps its length.
-- Assumes nothing.
use mathlib.Core.Path.{◌≡◌}
use Prim.Native.Nat.{◌+◌, ◌*◌, ◌≤◌}
use lib.ListN.{length}
use Rattle.answers_lines.proofs.put_numbers.Given as goal

abbrev pub invariant-loop-number : goal.invariant-loop-number
invariant-loop-number l = (l.to ≤ l.at + 16 + 21 * l.number-index) × (length l.out ≡ length l.initial.out)
