-- Laws of places that are counted and listed: one place more, by its test.
-- Assumes nothing.
use mathlib.Core.{Path.{◌≡◌, refl, sym, ◌∙◌, ap}, Bool.{Bool, true, false, ◌&&◌}, List.{List, [], ◌∷◌, ◌++◌}}
use Prim.Native.Nat.{ℕ, zero, suc, ◌+◌, ◌-◌, ◌*◌, ◌≤◌, ◌<◌}
use native.Mathlib.{Nat.{add-zero, add_assoc, add-sub_cancel_left}, Omega.arith}
use lib.{ListN.{length, take, drop, set, length-append, length-drop}, Seq.{sets, length-sets, take_all}}
use Rattle.std.specs.Prelude.{if◌then◌else◌}
use Rattle.rules.specs.{Tests.{◌=?◌}, Bytes.same?, Log.record_at}
use Rattle.rules.specs.Compare.{fields_differing, field_bits, Difference, difference_at, differences_to, leading_on, leading_to, entry, entries}
use Rattle.rules.proofs.page.Compared.{as_many}
use Rattle.bytes_base.proofs.Parts.{rest}
use Rattle.compare_places.specs.{declared.SoFar.SoFar, SoFar.{place_counted, place_listed, counted_to, listed_to}}

-- what a test of the bytes comes to
abbrev difference : Bool → (number : ℕ) (a b : List ℕ) → List Difference
difference t number a b = if t then [] else record { place = number; fields = fields_differing a b } ∷ []

module _ (s : SoFar) (a b : List ℕ) where
  pub listed_other : (list : List ℕ) {fields : ℕ} → same? a b ≡ false → fields ≡ field_bits (fields_differing a b)
      → set list s.differing (s.places * 64 + fields) ≡ place_listed s a b list
  listed_other list e f =
      ap (λ (k : ℕ). set list s.differing (s.places * 64 + k)) f
      ∙ ap (λ (t : Bool). sets list s.differing (entries (difference t s.places a b))) (sym e)

sets_both : (list : List ℕ) (i : ℕ) (xs ys : List ℕ) → sets list i (xs ++ ys) ≡ sets (sets list i xs) (i + length xs) ys
sets_both list i [] ys = ap (λ (k : ℕ). sets list k ys) (sym (add-zero i))
sets_both list i (x ∷ xs) ys =
    let e : suc i + length xs ≡ i + suc (length xs) = omega arith in
    sets_both (set list i x) (suc i) xs ys ∙ ap (λ (k : ℕ). sets (sets (set list i x) (suc i) xs) k ys) e

pub entries_both : (xs ys : List Difference) → entries (xs ++ ys) ≡ entries xs ++ entries ys
entries_both [] ys = refl
entries_both (d ∷ xs) ys = ap (λ (l : List ℕ). entry d ∷ l) (entries_both xs ys)

-- before the first place of two logs
module _ (s : SoFar) (first second : List ℕ) where
  pub counted_none : s ≡ counted_to s first second 0
  unfolding differences_to leading_to
  counted_none = λ i. record { places = sym (add-zero s.places) i; leading = s.leading; differing = sym (add-zero s.differing) i }

  pub listed_none : (list : List ℕ) → list ≡ listed_to s first second list 0
  unfolding differences_to
  listed_none list = refl

-- one place more of two logs
module _ (s : SoFar) (first second : List ℕ) (j : ℕ) where
  pub counted_on : place_counted (counted_to s first second j) (record_at first j) (record_at second j) ≡ counted_to s first second (suc j)
  unfolding differences_to leading_to
  counted_on = λ i. record {
    places = more i;
    leading = leading_to s.leading s.places first second (suc j);
    differing = (add_assoc s.differing (length so_far) (length here) ∙ ap (λ (n : ℕ). s.differing + n) (sym (length-append so_far here))) i;
  }
    where
      more : s.places + j + 1 ≡ s.places + suc j
      more = omega arith

      so_far : List Difference
      so_far = differences_to s.places first second j

      here : List Difference
      here = difference_at (s.places + j) (record_at first j) (record_at second j)

  pub listed_on : (list : List ℕ)
      → place_listed (counted_to s first second j) (record_at first j) (record_at second j) (listed_to s first second list j) ≡ listed_to s first second list (suc j)
  unfolding differences_to
  listed_on list =
      let so_far : List Difference = differences_to s.places first second j in
      let here : List Difference = difference_at (s.places + j) (record_at first j) (record_at second j) in
      ap (λ (n : ℕ). sets (sets list s.differing (entries so_far)) (s.differing + n) (entries here)) (sym (as_many so_far))
      ∙ sym (sets_both list s.differing (entries so_far) (entries here))
      ∙ ap (sets list s.differing) (sym (entries_both so_far here))

-- no more differ than there are
pub few : (number : ℕ) (first second : List ℕ) (j : ℕ) → length (differences_to number first second j) ≤ j
unfolding differences_to
few number first second zero = omega arith
few number first second (suc j) =
    rw (length-append (differences_to number first second j) (difference_at (number + j) (record_at first j) (record_at second j)))
    (let so_far = few number first second j in let one = one_at_most (same? (record_at first j) (record_at second j)) in omega arith)
  where
    one_at_most : (t : Bool) → length (difference t (number + j) (record_at first j) (record_at second j)) ≤ 1
    one_at_most true = omega arith
    one_at_most false = omega arith

-- what was counted of the first j places can be counted on
pub countable : (s : SoFar) (first second : List ℕ) (j : ℕ) {r : SoFar} → r ≡ counted_to s first second j → s.differing ≤ s.places
    → (r.places ≡ s.places + j) × (r.differing ≤ r.places)
countable s first second j {r} e h =
    let p : r.places ≡ s.places + j = ap (λ (x : SoFar). x.places) e in
    let d : r.differing ≡ s.differing + length (differences_to s.places first second j) = ap (λ (x : SoFar). x.differing) e in
    let f : length (differences_to s.places first second j) ≤ j = few s.places first second j in
    (p, omega arith)

-- the place behind the first j, as the code has it
pub place_on : (s : SoFar) (first second list : List ℕ) (j k : ℕ) {counted r : SoFar} {listed new a b : List ℕ}
    → counted ≡ counted_to s first second j → listed ≡ listed_to s first second list j → a ≡ record_at first j → b ≡ record_at second j → suc j ≡ k
    → r ≡ place_counted counted a b → new ≡ place_listed counted a b listed → (r ≡ counted_to s first second k) × (new ≡ listed_to s first second list k)
place_on s first second list j k {counted} {r} {listed} {new} {a} {b} e f g h n p q = (
  p ∙ ap (λ (x : SoFar). place_counted x a b) e ∙ ap (λ (l : List ℕ). place_counted (counted_to s first second j) l b) g
      ∙ ap (place_counted (counted_to s first second j) (record_at first j)) h ∙ counted_on s first second j ∙ ap (counted_to s first second) n,
  q ∙ ap (λ (x : SoFar). place_listed x a b listed) e ∙ ap (λ (l : List ℕ). place_listed (counted_to s first second j) l b listed) g
      ∙ ap (λ (l : List ℕ). place_listed (counted_to s first second j) (record_at first j) l listed) h
      ∙ ap (place_listed (counted_to s first second j) (record_at first j) (record_at second j)) f
      ∙ listed_on s first second j list ∙ ap (listed_to s first second list) n,
)

-- a whole place, and the cut one, as parts of a log
pub whole_part : (log : List ℕ) (j : ℕ) → take (j * 544 + 544 - j * 544) (drop (j * 544) log) ≡ record_at log j
whole_part log j = ap (λ (k : ℕ). take k (drop (j * 544) log)) (add-sub_cancel_left (j * 544) 544)

pub cut_part : (log : List ℕ) (j : ℕ) → length log < j * 544 + 544 → take (length log - j * 544) (drop (j * 544) log) ≡ record_at log j
cut_part log j h =
    let short : length (drop (j * 544) log) ≤ 544 = rw length-drop (omega arith) in
    rest (j * 544) log ∙ sym (take_all 544 (drop (j * 544) log) short)
