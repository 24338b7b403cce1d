-- Places of two logs of which a first part was counted: those behind it are counted on from there. The part is whole records, or nothing is behind it.
-- Assumes nothing.
use mathlib.Core.{Path.{◌≡◌, sym, ◌∙◌, ap}, List.{List, [], ◌++◌, append-nil}}
use Prim.Native.Nat.{ℕ, zero, suc, ◌≤◌, ◌<◌, ◌+◌, ◌*◌}
use native.Mathlib.{Nat.{add-zero, add-suc, add-mul}, Omega.arith}
use lib.{ListN.{length, take, drop, length-append, length-drop}, Seq.{drop_at, drop-drop, take-append-le, drop-append-le}}
use Rattle.rules.specs.{Log.record_at, Compare.places_in}
use Rattle.compare_places.specs.{declared.SoFar.SoFar, SoFar.{place_counted, place_listed, counted_to, listed_to, part_counted, part_listed}}
use Rattle.compare_places.proofs.Laws.{counted_none, counted_on, listed_none, listed_on}

-- a record of the part behind, and one of the part in front
module _ (a b : List ℕ) (k : ℕ) (whole : length a ≡ k * 544) where
  far : (j : ℕ) → record_at (a ++ b) (k + j) ≡ record_at b j
  far j =
      ap (λ (n : ℕ). take 544 (drop n (a ++ b))) (add-mul k j 544)
      ∙ ap (take 544) (sym (drop-drop (j * 544) (k * 544) (a ++ b)) ∙ ap (drop (j * 544)) (drop_at a b (k * 544) whole))

  near : (j : ℕ) → j < k → record_at (a ++ b) j ≡ record_at a j
  near j h =
      let before : j * 544 ≤ length a = omega arith in
      let inside : 544 ≤ length (drop (j * 544) a) = rw length-drop (omega arith) in
      ap (take 544) (drop-append-le (j * 544) a b before) ∙ take-append-le 544 (drop (j * 544) a) b inside

-- the same place of other bytes that are the same
place_same : (s t : SoFar) (a b c d : List ℕ) → s ≡ t → a ≡ c → b ≡ d → place_counted s a b ≡ place_counted t c d
place_same s t a b c d e f g = ap (λ (u : SoFar). place_counted u a b) e ∙ ap (λ (l : List ℕ). place_counted t l b) f ∙ ap (place_counted t c) g

list_same : (s t : SoFar) (a b c d list new : List ℕ) → s ≡ t → a ≡ c → b ≡ d → list ≡ new → place_listed s a b list ≡ place_listed t c d new
list_same s t a b c d list new e f g h =
    ap (λ (u : SoFar). place_listed u a b list) e ∙ ap (λ (l : List ℕ). place_listed t l b list) f ∙ ap (λ (l : List ℕ). place_listed t c l list) g ∙ ap (place_listed t c d) h

module _ (s : SoFar) (list a b x y : List ℕ) (k : ℕ) (first : length a ≡ k * 544) (second : length b ≡ k * 544) where
  counted_near : (j : ℕ) → j ≤ k → counted_to s (a ++ x) (b ++ y) j ≡ counted_to s a b j
  counted_near zero h = sym (counted_none s (a ++ x) (b ++ y)) ∙ counted_none s a b
  counted_near (suc j) h =
      sym (counted_on s (a ++ x) (b ++ y) j)
      ∙ place_same (counted_to s (a ++ x) (b ++ y) j) (counted_to s a b j) (record_at (a ++ x) j) (record_at (b ++ y) j) (record_at a j) (record_at b j)
      (counted_near j (omega arith)) (near a x k first j (omega arith)) (near b y k second j (omega arith))
      ∙ counted_on s a b j

  listed_near : (j : ℕ) → j ≤ k → listed_to s (a ++ x) (b ++ y) list j ≡ listed_to s a b list j
  listed_near zero h = sym (listed_none s (a ++ x) (b ++ y) list) ∙ listed_none s a b list
  listed_near (suc j) h =
      sym (listed_on s (a ++ x) (b ++ y) j list)
      ∙ list_same (counted_to s (a ++ x) (b ++ y) j) (counted_to s a b j) (record_at (a ++ x) j) (record_at (b ++ y) j) (record_at a j) (record_at b j)
      (listed_to s (a ++ x) (b ++ y) list j) (listed_to s a b list j)
      (counted_near j (omega arith)) (near a x k first j (omega arith)) (near b y k second j (omega arith)) (listed_near j (omega arith))
      ∙ listed_on s a b j list

  counted_far : (j : ℕ) → counted_to s (a ++ x) (b ++ y) (k + j) ≡ counted_to (counted_to s a b k) x y j
  counted_far zero = ap (counted_to s (a ++ x) (b ++ y)) (add-zero k) ∙ counted_near k (omega arith) ∙ counted_none (counted_to s a b k) x y
  counted_far (suc j) =
      ap (counted_to s (a ++ x) (b ++ y)) (add-suc k j)
      ∙ sym (counted_on s (a ++ x) (b ++ y) (k + j))
      ∙ place_same (counted_to s (a ++ x) (b ++ y) (k + j)) (counted_to (counted_to s a b k) x y j) (record_at (a ++ x) (k + j)) (record_at (b ++ y) (k + j)) (record_at x j) (record_at y j)
      (counted_far j) (far a x k first j) (far b y k second j)
      ∙ counted_on (counted_to s a b k) x y j

  listed_far : (j : ℕ) → listed_to s (a ++ x) (b ++ y) list (k + j) ≡ listed_to (counted_to s a b k) x y (listed_to s a b list k) j
  listed_far zero = ap (listed_to s (a ++ x) (b ++ y) list) (add-zero k) ∙ listed_near k (omega arith) ∙ listed_none (counted_to s a b k) x y (listed_to s a b list k)
  listed_far (suc j) =
      ap (listed_to s (a ++ x) (b ++ y) list) (add-suc k j)
      ∙ sym (listed_on s (a ++ x) (b ++ y) (k + j) list)
      ∙ list_same (counted_to s (a ++ x) (b ++ y) (k + j)) (counted_to (counted_to s a b k) x y j) (record_at (a ++ x) (k + j)) (record_at (b ++ y) (k + j)) (record_at x j) (record_at y j)
      (listed_to s (a ++ x) (b ++ y) list (k + j)) (listed_to (counted_to s a b k) x y (listed_to s a b list k) j)
      (counted_far j) (far a x k first j) (far b y k second j) (listed_far j)
      ∙ listed_on (counted_to s a b k) x y j (listed_to s a b list k)

  -- how many places there are
  in_front : places_in a ≡ k
  in_front = omega arith

  in_both : places_in (a ++ x) ≡ k + places_in x
  in_both = let l : length (a ++ x) ≡ length a + length x = length-append a x in omega arith

  pub whole_counted : part_counted s (a ++ x) (b ++ y) ≡ part_counted (part_counted s a b) x y
  whole_counted =
      ap (counted_to s (a ++ x) (b ++ y)) in_both ∙ counted_far (places_in x)
      ∙ ap (λ (n : ℕ). counted_to (counted_to s a b n) x y (places_in x)) (sym in_front)

  pub whole_listed : part_listed s (a ++ x) (b ++ y) list ≡ part_listed (part_counted s a b) x y (part_listed s a b list)
  whole_listed =
      ap (listed_to s (a ++ x) (b ++ y) list) in_both ∙ listed_far (places_in x)
      ∙ ap (λ (n : ℕ). listed_to (counted_to s a b n) x y (listed_to s a b list n) (places_in x)) (sym in_front)

-- nothing is behind
module _ (s : SoFar) (list a b : List ℕ) where
  pub last_counted : part_counted s (a ++ []) (b ++ []) ≡ part_counted (part_counted s a b) [] []
  last_counted =
      ap (λ (l : List ℕ). part_counted s l (b ++ [])) (append-nil a) ∙ ap (part_counted s a) (append-nil b)
      ∙ counted_none (part_counted s a b) [] []

  pub last_listed : part_listed s (a ++ []) (b ++ []) list ≡ part_listed (part_counted s a b) [] [] (part_listed s a b list)
  last_listed =
      ap (λ (l : List ℕ). part_listed s l (b ++ []) list) (append-nil a) ∙ ap (λ (l : List ℕ). part_listed s a l list) (append-nil b)
      ∙ listed_none (part_counted s a b) [] [] (part_listed s a b list)
