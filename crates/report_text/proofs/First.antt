-- A text that is a piece for each element of a list and then an end, written piece by piece: the pieces of the first k elements, and one more.
-- Assumes nothing.
use mathlib.Core.{Path.{◌≡◌, refl, sym, ◌∙◌, ap, subst}, List.{List, [], ◌∷◌, ◌++◌, append_assoc, append-nil}}
use Prim.Native.Nat.{ℕ, zero, suc, ◌+◌, ◌*◌, ◌≤◌}
use native.Mathlib.{Nat.add-zero, Omega.arith}
use lib.{ListN.{length, drop, get_or, drop_of_length-le}, Seq.drop-cons}
use Rattle.rules.{specs.Text.{ascii, decimal}, specs.Report.{row_text, host_lines}}
use Rattle.text.specs.Wrote.{WroteWithin}
use Rattle.report_text.specs.Lines.{host_line}
use Rattle.report_text.proofs.Within.{then_within}

module _ {A : Type 0} (none : A) (piece : ℕ → A → List ℕ) (number : ℕ) (all : List A) where
  -- the pieces of the first k elements, the first of which has the number
  unfoldable pub first : (k : ℕ) → List ℕ
  first zero = []
  first (suc k) = first k ++ piece (number + k) (get_or all k none)

  -- where so many were written, each within the same room, and then the next, one more was
  pub one_more : {old mid new : List ℕ} {at i j : ℕ} (k most : ℕ) → at ≤ length old → WroteWithin (k * most) old at (first k) mid i
      → WroteWithin most mid i (piece (number + k) (get_or all k none)) new j → WroteWithin ((k + 1) * most) old at (first (k + 1)) new j
  unfolding first
  one_more {old} {mid} {new} {at} {i} {j} k most h p q =
      subst (λ (n : ℕ). WroteWithin (n * most) old at (first n) new j) next
      (subst (λ (n : ℕ). WroteWithin n old at (first (suc k)) new j) room (then_within h p q))
    where
      next : suc k ≡ k + 1
      next = omega arith

      room : k * most + most ≡ suc k * most
      room = omega arith

  module _ (text : ℕ → List A → List ℕ) (is : (n : ℕ) (x : A) (xs : List A) → text n (x ∷ xs) ≡ piece n x ++ text (n + 1) xs) where
    -- with the text of the rest they are the whole text
    rest_of : (k : ℕ) → k ≤ length all → first k ++ text (number + k) (drop k all) ≡ text number all
    unfolding first
    rest_of zero h = ap (λ (n : ℕ). text n all) (add-zero number)
    rest_of (suc k) h =
        append_assoc (first k) (piece (number + k) (get_or all k none)) (text (number + suc k) (drop (suc k) all))
        ∙ ap (λ (n : ℕ). first k ++ (piece (number + k) (get_or all k none) ++ text n (drop (suc k) all))) next
        ∙ ap (λ (t : List ℕ). first k ++ t) (sym (is (number + k) (get_or all k none) (drop (suc k) all)) ∙ ap (text (number + k)) (sym (drop-cons all k none (omega (arith, h)))))
        ∙ rest_of k (omega (arith, h))
      where
        next : number + suc k ≡ number + k + 1
        next = omega arith

    pub whole : {k : ℕ} → k ≡ length all → first k ++ text (number + k) [] ≡ text number all
    whole {k} e =
        ap (λ (xs : List A). first k ++ text (number + k) xs) (sym (drop_of_length-le all {i = k} (omega (arith, e)))) ∙ rest_of k (omega (arith, e))

-- a row, count by count, each after a space
abbrev pub count_text : (number count : ℕ) → List ℕ
count_text number count = ascii " " ++ decimal count

abbrev pub first_counts : (row : List ℕ) (k : ℕ) → List ℕ
first_counts = first 0 count_text 0

pub whole_row : (row : List ℕ) {k : ℕ} → k ≡ length row → first_counts row k ++ ascii "\n" ≡ row_text row
whole_row row = whole 0 count_text 0 row (λ (n : ℕ) (xs : List ℕ). row_text xs) (λ n x xs. refl)

-- the hosts' lines, row by row
abbrev pub first_hosts : (grid : List (List ℕ)) (k : ℕ) → List ℕ
first_hosts = first [] host_line 1

pub whole_grid : (grid : List (List ℕ)) {k : ℕ} → k ≡ length grid → first_hosts grid k ≡ host_lines 1 grid
whole_grid grid {k} e = sym (append-nil (first_hosts grid k)) ∙ whole [] host_line 1 grid host_lines (λ n x xs. refl) e
