-- Laws of a turn: what it counts, and that it can be counted on.
-- Assumes nothing.
use mathlib.Core.{Path.{◌≡◌, ◌∙◌, ap}, List.{List}}
use Prim.Native.Nat.{ℕ, min, ◌+◌, ◌-◌, ◌≤◌, ◌<◌}
use native.Mathlib.{Omega.arith}
use lib.ListN.{length, take, length-take}
use Rattle.rules.specs.{Compare.{places_in}}
use Rattle.compare_places.{specs.declared.SoFar.SoFar, specs.SoFar.{part_counted}, proofs.Laws.countable}
use Rattle.compare_turns.specs.{declared.Told.Told, Turned.{both_have, Standing, turned}}

module _ (t : Told) (a b : List ℕ) (first second : ℕ) {n : ℕ} (both : n ≡ both_have first second) where
  pub turned_is : {counted : SoFar} → counted ≡ part_counted t.counted (take n a) (take n b)
      → record { counted = counted; left = t.left + (first - n) + (second - n) } ≡ turned t a b first second
  turned_is {counted} e = λ i. record {
    counted = (e ∙ ap (λ (k : ℕ). part_counted t.counted (take k a) (take k b)) both) i;
    left = ap (λ (k : ℕ). t.left + (first - k) + (second - k)) both i;
  }

-- after a turn there is one turn less
pub stands_on : (t : Told) (a b : List ℕ) (first second turns : ℕ) {r : Told} → r ≡ turned t a b first second → Standing turns t → 0 < turns → first ≤ 65280 → second ≤ 65280
    → Standing (turns - 1) r
stands_on t a b first second turns {r} e s h f g =
    let x : List ℕ = take (both_have first second) a in
    let y : List ℕ = take (both_have first second) b in
    let c : r.counted ≡ part_counted t.counted x y = ap (λ (q : Told). q.counted) e in
    let on = countable t.counted x y (places_in x) c s.1 in
    let long : length x ≡ min (both_have first second) (length a) = length-take (both_have first second) a in
    let few : places_in x ≤ 120 = omega arith in
    let p : r.counted.places ≡ t.counted.places + places_in x = on.0 in
    let l : r.left ≡ t.left + (first - both_have first second) + (second - both_have first second) = ap (λ (q : Told). q.left) e in
    (omega (arith, s.0), on.1, omega (arith, s.2))
