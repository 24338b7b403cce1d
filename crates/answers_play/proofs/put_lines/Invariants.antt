-- `answers_play::put_lines` meets its contract: each record has the next number, and its line takes at most 296 bytes.
-- Assumes nothing.
use mathlib.Core.Path.{◌≡◌}
use Prim.Native.Nat.{◌+◌, ◌*◌, ◌≤◌, ◌/◌}
use lib.ListN.{length}
use Rattle.std.specs.Slice.Iter.{chunks_exact_rest, chunks_exact_size}
use Rattle.answers_play.proofs.put_lines.Given as goal

abbrev pub invariant-loop-record : goal.invariant-loop-record
invariant-loop-record l = (chunks_exact_size l.record-iterator ≡ 544) × (length l.out ≡ length l.initial.out)
    × (l.next + length (chunks_exact_rest l.record-iterator) / 544 ≡ l.number + length l.part / 544)
    × (l.played.at + length (chunks_exact_rest l.record-iterator) / 544 * 296 ≤ length l.part / 544 * 296)
