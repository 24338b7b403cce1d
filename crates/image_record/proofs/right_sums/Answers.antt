-- `image_record::right_sums` meets its contract: past each turn the two sums are those of the words so far, wrapped, and all words come to twice the last.
use Rattle.std.proofs.Common.{arith, refl}
use mathlib.Core.Path.{◌≡◌}
use mathlib.Core.Bool.{◌&&◌}
use Rattle.image_record.proofs.Rows.{turn_more, twice_tests}
use Rattle.image_record.proofs.right_sums.Goals as goal

pub loop-turn-preserved : goal.loop-turn-preserved
loop-turn-preserved c =
    let one = turn_more c.loop-turn.turn _ c.loop-turn.invariant.0 c.row-one.ensures refl in
    let other = turn_more c.loop-turn.turn _ c.loop-turn.invariant.1 c.row-other.ensures refl in
    (one, other)

pub returns : goal.returns
returns c =
    let all : c.loop-turn.turn ≡ 8 = omega (arith, c.loop-turn.auto.turn-end, c.loop-turn-test.false) in
    let one = twice_tests _ c.fits-first (rw all at c.loop-turn.invariant.0) c.twice_last.ensures in
    let other = twice_tests _ c.fits-second (rw all at c.loop-turn.invariant.1) c.twice_last-2.ensures in
    λ i. one i && other i
