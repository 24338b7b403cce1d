-- `compare_places::SoFar::with_part` meets its contract: the places are the whole ones, and behind them the cut one, if there is one.
-- Assumes nothing.
use mathlib.Core.Path.{◌≡◌, sym, ◌∙◌, ap}
use Prim.Native.Nat.{ℕ, suc, ◌*◌, ◌-◌, ◌/◌}
use native.Mathlib.Omega.{arith}
use borrow.Rule.Slice.PartMut.{mid_len}
use lib.ListN.{length}
use Rattle.rules.specs.Compare.{places_in}
use Rattle.compare_places.proofs.Laws.{countable, place_on, cut_part}
use Rattle.compare_places.proofs.SoFar.with_part.Goals as goal

pub with_place-requires : goal.with_place-requires
with_place-requires c = let a = c.args in
    let n = length a.first.now / 544 in
    let so_far = countable a.self a.first.now a.second.now n c.with_whole-counted.ensures.value c.requires.record_size_bound.1 in
    let one = mid_len (n * 544) (length a.first.now) a.first.now (omega arith) in
    let two = mid_len (n * 544) (length a.second.now) a.second.now (omega arith) in
    let same : length a.first.now ≡ length a.second.now = c.requires.first_len in
    ((omega (arith, so_far.0, c.requires.record_size_bound.0), so_far.1), one ∙ ap (λ (k : ℕ). k - n * 544) same ∙ sym two)

pub returns : goal.returns
returns c = let a = c.args in
    let n = length a.first.now / 544 in
    let e : suc n ≡ places_in a.first.now = omega (arith, c.if-first-at.false) in
    let on = place_on a.self a.first.now a.second.now a.list.now n (places_in a.first.now) c.with_whole-counted.ensures.value c.with_whole-counted.ensures.list_after
    (cut_part a.first.now n (omega arith)) (cut_part a.second.now n (omega (arith, c.requires.first_len))) e c.with_place.ensures.value c.with_place.ensures.list_after in
    record { value = on.0; list_after = on.1 }
