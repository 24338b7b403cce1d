-- `compare_places::SoFar::with_whole` meets its contract: what was counted and listed so far is that of the first j places.
-- Assumes nothing.
use borrow.Author.Rules.{rules}
use Rattle.compare_places.proofs.Laws.{counted_none, listed_none, countable, place_on, whole_part}
use borrow.Rule.Slice.PartMut.{mid_len}
use mathlib.Core.Path.{◌≡◌, sym, ◌∙◌}
use Prim.Native.Nat.{suc, ◌+◌, ◌*◌}
use native.Mathlib.Omega.{arith}
use Rattle.compare_places.proofs.SoFar.with_whole.Goals as goal

pub loop-j-init : goal.loop-j-init
loop-j-init c = let a = c.args in
    (counted_none a.self a.first.now a.second.now, listed_none a.self a.first.now a.second.now a.list.now)

pub with_place-counted-requires : goal.with_place-counted-requires
with_place-counted-requires c = let a = c.args in
    let p = c.requires in
    let now = countable a.self a.first.now a.second.now c.loop-j.j c.loop-j.invariant.0 p.whole_bound.1 in
    let one = mid_len (c.loop-j.j * 544) (c.loop-j.j * 544 + 544) a.first.now (omega arith) in
    let two = mid_len (c.loop-j.j * 544) (c.loop-j.j * 544 + 544) a.second.now (omega arith) in
    ((omega (arith, now.0), now.1), one ∙ sym two)

pub loop-j-preserved : goal.loop-j-preserved
loop-j-preserved c = let a = c.args in
    let e : suc c.loop-j.j ≡ c.loop-j.j + 1 = omega arith in
    let on = place_on a.self a.first.now a.second.now a.list.now c.loop-j.j (c.loop-j.j + 1) c.loop-j.invariant.0 c.loop-j.invariant.1
    (whole_part a.first.now c.loop-j.j) (whole_part a.second.now c.loop-j.j) e c.with_place-counted.ensures.value c.with_place-counted.ensures.list_after in
    (on.0, on.1)
