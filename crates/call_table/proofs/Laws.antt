-- Laws of the table: an index that it has, an index that it lacks, a revision that serves nothing.
-- Assumes nothing.
use mathlib.Core.{Path.{◌≡◌, refl, sym, ◌∙◌, ap}, List.{List, [], ◌∷◌}}
use Prim.Native.Nat.{ℕ, zero, suc}
use native.Mathlib.Omega.{arith}
use borrow.Author.Tests.{ne_eqb, le-leb, lt-leb}
use Rattle.rules.{specs.declared.Row.Row, specs.Table.{table, unserved, look_up, row_of, mask}}

-- a row that looking up a known index computes to is that index's row
pub row_at : {index place : ℕ} {r : Row} → index ≡ place → r ≡ look_up place table → r ≡ row_of index
unfolding row_of
row_at at row = row ∙ sym (ap row_of at)

-- what a match knows past its arms: the index is none of these places
abbrev pub Lacks : (known : Type 0) (index : ℕ) → List (ℕ × Row) → Type 0
Lacks known index [] = known
Lacks known index (place ∷ places) = Lacks (known × (index ≡ place.0 → ⊥)) index places

-- looking up such an index finds no row; what was known before still is
none_of_these : (known : Type 0) (index : ℕ) (places : List (ℕ × Row))
    → Lacks known index places → known × (look_up index places ≡ unserved)
none_of_these known index [] lacks = (lacks, refl)
none_of_these known index (place ∷ places) lacks =
    let rest = none_of_these (known × (index ≡ place.0 → ⊥)) index places lacks in
    (rest.0.0, rw (ne_eqb index place.0 rest.0.1) rest.1)

-- the row of an index that the table lacks
pub no_row_at : (index : ℕ) {r : Row} → Lacks Unit index table → r ≡ unserved → r ≡ row_of index
unfolding row_of
no_row_at index lacks row = row ∙ sym (none_of_these Unit index table lacks).1

-- a revision other than 1 and 2 serves nothing
pub no_bits : (revision : ℕ) → (revision ≡ 1 → ⊥) → (revision ≡ 2 → ⊥) → 0 ≡ mask revision
unfolding mask
no_bits zero not_1 not_2 = refl
no_bits (suc k) not_1 not_2 =
    simp (le-leb 1 (suc k) (omega arith), le-leb 2 (suc k) (omega arith), lt-leb (suc k) 2 (omega arith))
