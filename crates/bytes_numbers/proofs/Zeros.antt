-- Bytes are zero where the numbers in them are, so that a few numbers tell what many bytes would.
-- Assumes nothing.
use mathlib.Core.{Path.{◌≡◌, refl, sym, ◌∙◌, ap}, Bool.{Bool, ◌&&◌}, List.{List, [], ◌∷◌, ◌++◌}}
use Prim.Native.Nat.{ℕ, zero, suc, ◌+◌, ◌*◌}
use native.Mathlib.Omega.{arith}
use lib.{Dec.eqb, ListN.{take, drop}, Seq.{take-add, drop-drop}}
use borrow.Author.Tests.{ne_eqb}
use Rattle.rules.specs.Bytes.{of_le, number_at, zeros?}

-- a byte and a number above it are zero together
both : (x n : ℕ) → eqb (x + 256 * n) 0 ≡ (eqb x 0 && eqb n 0)
both zero zero = refl
both zero (suc n) = ne_eqb (0 + 256 * suc n) 0 (λ e. omega arith) ∙ sym (ne_eqb (suc n) 0 (λ e. omega arith))
both (suc x) n =
    ne_eqb (suc x + 256 * n) 0 (λ e. omega arith) ∙ ap (λ (t : Bool). t && eqb n 0) (sym (ne_eqb (suc x) 0 (λ e. omega arith)))

zeros_number : (l : List ℕ) → zeros? l ≡ eqb (of_le l) 0
unfolding zeros?
zeros_number [] = refl
zeros_number (x ∷ xs) = ap (λ (t : Bool). eqb x 0 && t) (zeros_number xs) ∙ sym (both x (of_le xs))

zeros_append : (a b : List ℕ) → zeros? (a ++ b) ≡ (zeros? a && zeros? b)
unfolding zeros?
zeros_append [] b = refl
zeros_append (zero ∷ xs) b = zeros_append xs b
zeros_append (suc x ∷ xs) b = rw (ne_eqb (suc x) 0 (λ e. omega arith)) refl

-- the first number
pub zero_first : (at k : ℕ) (s : List ℕ) {r : ℕ} → r ≡ number_at k at s → eqb r 0 ≡ zeros? (take k (drop at s))
zero_first at k s e = ap (λ (n : ℕ). eqb n 0) e ∙ sym (zeros_number (take k (drop at s)))

-- one number more, behind bytes already tested
pub zero_more : (at n k : ℕ) (s : List ℕ) {t : Bool} {r : ℕ} → t ≡ zeros? (take n (drop at s)) → r ≡ number_at k (at + n) s
    → (t && eqb r 0) ≡ zeros? (take (n + k) (drop at s))
zero_more at n k s {t = t} e f =
    ap (λ (b : Bool). t && b) (zero_first (at + n) k s f)
    ∙ ap (λ (b : Bool). b && zeros? (take k (drop (at + n) s))) e
    ∙ ap (λ (l : List ℕ). zeros? (take n (drop at s)) && zeros? (take k l)) (sym (drop-drop n at s))
    ∙ sym (zeros_append (take n (drop at s)) (take k (drop n (drop at s))))
    ∙ ap zeros? (sym (take-add n k (drop at s)))
