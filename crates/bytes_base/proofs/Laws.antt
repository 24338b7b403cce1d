-- Laws of the tests on lists: what a fold over all of a list comes to.
use mathlib.Core.{Path.{◌≡◌, refl, sym, ◌∙◌, ap}, Bool.{Bool, true, false, ◌&&◌, false≢true}, List.{List, [], ◌∷◌}}
use Prim.Native.Nat.{ℕ}
use native.Mathlib.Omega.{arith}
use borrow.Author.Tests.{eq-eqb, ne_eqb, eqb-true, eqb-false}
use lib.{Dec.eqb, ListN.length}
use Rattle.std.specs.List.{fold, zip}
use Rattle.rules.specs.Bytes.{zeros?, same?}

and_assoc : (a b c : Bool) → ((a && b) && c) ≡ (a && (b && c))
and_assoc true b c = refl
and_assoc false b c = refl

and_true : (a : Bool) → (a && true) ≡ a
and_true true = refl
and_true false = refl

-- what a fold over every byte comes to, from what it had come to before
zeros_folded : (so_far : Bool) (s : List ℕ) → fold (λ zero byte. zero && eqb byte 0) so_far s ≡ (so_far && zeros? s)
unfolding zeros?
zeros_folded so_far [] = sym (and_true so_far)
zeros_folded so_far (x ∷ xs) = zeros_folded (so_far && eqb x 0) xs ∙ and_assoc so_far (eqb x 0) (zeros? xs)

pub zeros_fold : (s : List ℕ) → fold (λ zero byte. zero && eqb byte 0) true s ≡ zeros? s
zeros_fold s = zeros_folded true s

-- a fold over every two bytes, likewise
same_folded : (so_far : Bool) (a b : List ℕ) → length a ≡ length b → fold (λ equal pair. equal && eqb pair.0 pair.1) so_far (zip a b) ≡ (so_far && same? a b)
unfolding same?
same_folded so_far [] [] e = sym (and_true so_far)
same_folded so_far [] (y ∷ ys) e = absurd (omega arith)
same_folded so_far (x ∷ xs) [] e = absurd (omega arith)
same_folded so_far (x ∷ xs) (y ∷ ys) e = same_folded (so_far && eqb x y) xs ys (omega arith) ∙ and_assoc so_far (eqb x y) (same? xs ys)

pub same_fold : (a b : List ℕ) → length a ≡ length b → fold (λ equal pair. equal && eqb pair.0 pair.1) true (zip a b) ≡ same? a b
same_fold a b e = same_folded true a b e

same_true : (a b : List ℕ) → same? a b ≡ true → a ≡ b
unfolding same?
same_true [] [] e = refl
same_true [] (y ∷ ys) e = absurd (false≢true e)
same_true (x ∷ xs) [] e = absurd (false≢true e)
same_true (x ∷ xs) (y ∷ ys) e = go (eqb x y) refl e (same_true xs ys)
  where
    go : (t : Bool) → eqb x y ≡ t → (t && same? xs ys) ≡ true → (same? xs ys ≡ true → xs ≡ ys) → (x ∷ xs) ≡ (y ∷ ys)
    go true p q r = cc (eqb-true x y p, r q)
    go false p q r = absurd (false≢true q)

pub same_lengths : (a b : List ℕ) → (length a ≡ length b → ⊥) → false ≡ same? a b
unfolding same?
same_lengths a b n = go (same? a b) refl
  where
    go : (t : Bool) → same? a b ≡ t → false ≡ t
    go true p = absurd (n (ap length (same_true a b p)))
    go false p = refl

eqb_swap : (x y : ℕ) → eqb x y ≡ eqb y x
eqb_swap x y = go (eqb x y) refl
  where
    go : (t : Bool) → eqb x y ≡ t → eqb x y ≡ eqb y x
    go true p = p ∙ sym (eq-eqb y x (sym (eqb-true x y p)))
    go false p = p ∙ sym (ne_eqb y x (λ e. eqb-false x y p (sym e)))

-- which of the two comes first does not matter
pub same_swap : (a b : List ℕ) → same? a b ≡ same? b a
unfolding same?
same_swap [] [] = refl
same_swap [] (y ∷ ys) = refl
same_swap (x ∷ xs) [] = refl
same_swap (x ∷ xs) (y ∷ ys) = λ i. eqb_swap x y i && same_swap xs ys i
