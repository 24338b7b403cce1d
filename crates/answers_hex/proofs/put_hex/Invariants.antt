-- `answers_hex::put_hex` meets its contract. Each byte takes two places, and the buffer keeps its length.
-- Assumes nothing.
use mathlib.Core.Path.{◌≡◌}
use Prim.Native.Nat.{◌+◌, ◌*◌}
use lib.ListN.{length}
use Rattle.answers_hex.proofs.put_hex.Given as goal

abbrev pub invariant-loop-byte : goal.invariant-loop-byte
invariant-loop-byte l = (l.to ≡ l.at + 2 * l.byte-index) × (length l.out ≡ length l.initial.out)
