-- Bytes are the same where the numbers in them are, so that a few numbers tell what many bytes would.
-- Assumes nothing.
use mathlib.Core.{Path.{◌≡◌, refl, sym, ◌∙◌, ap}, Bool.{Bool, true, false, ◌&&◌}, List.{List, [], ◌∷◌, ◌++◌}}
use Prim.Native.Nat.{ℕ, suc, ◌+◌, ◌*◌, ◌<◌, ◌≤◌}
use native.Mathlib.Omega.{arith}
use borrow.Author.Tests.{eq-eqb, ne_eqb, eqb-true, eqb-false}
use lib.{Dec.eqb, ListN.{length, take, drop, length-drop}, Seq.{take-add, take_all, length-take-le}}
use Rattle.rules.specs.Bytes.{of_le, number_at, same?}
use Rattle.bytes_numbers.proofs.Bytes.{Bytes, bytes_drop, bytes_take}

-- a byte and a number above it are the same together
both : (x y m n : ℕ) → x < 256 → y < 256 → (eqb x y && eqb m n) ≡ eqb (x + 256 * m) (y + 256 * n)
both x y m n hx hy = go (eqb x y) refl (eqb m n) refl
  where
    go : (t : Bool) → eqb x y ≡ t → (u : Bool) → eqb m n ≡ u → (t && u) ≡ eqb (x + 256 * m) (y + 256 * n)
    go true p true q = sym (eq-eqb (x + 256 * m) (y + 256 * n) (omega (arith, eqb-true x y p, eqb-true m n q)))
    go true p false q = sym (ne_eqb (x + 256 * m) (y + 256 * n) (λ e. eqb-false m n q (omega (arith, eqb-true x y p, e))))
    go false p u q = sym (ne_eqb (x + 256 * m) (y + 256 * n) (λ e. eqb-false x y p (omega (arith, hx, hy, e))))

same_number : (a b : List ℕ) → length a ≡ length b → Bytes a → Bytes b → same? a b ≡ eqb (of_le a) (of_le b)
unfolding same?
same_number [] [] e f g = refl
same_number [] (y ∷ ys) e f g = absurd (omega (arith, e))
same_number (x ∷ xs) [] e f g = absurd (omega (arith, e))
same_number (x ∷ xs) (y ∷ ys) e f g =
    ap (λ (t : Bool). eqb x y && t) (same_number xs ys (omega (arith, e)) (λ (k : ℕ). f (suc k)) (λ (k : ℕ). g (suc k)))
    ∙ both x y (of_le xs) (of_le ys) (f 0).fits (g 0).fits

same_append : (a b c d : List ℕ) → length a ≡ length b → same? (a ++ c) (b ++ d) ≡ (same? a b && same? c d)
unfolding same?
same_append [] [] c d e = refl
same_append [] (y ∷ ys) c d e = absurd (omega (arith, e))
same_append (x ∷ xs) [] c d e = absurd (omega (arith, e))
same_append (x ∷ xs) (y ∷ ys) c d e =
    ap (λ (t : Bool). eqb x y && t) (same_append xs ys c d (omega (arith, e))) ∙ sym (and_assoc (eqb x y) (same? xs ys) (same? c d))
  where
    and_assoc : (a b c : Bool) → (a && b && c) ≡ (a && (b && c))
    and_assoc true b c = refl
    and_assoc false b c = refl

-- one number of each more, behind bytes already compared
module _ (a b : List ℕ) (f : Bytes a) (g : Bytes b) (ha : length a ≡ 32) (hb : length b ≡ 32) where
  more : (n k : ℕ) → n + k ≤ 32 → {t : Bool} {x y : ℕ} → t ≡ same? (take n a) (take n b) → x ≡ number_at k n a → y ≡ number_at k n b
      → (t && eqb x y) ≡ same? (take (n + k) a) (take (n + k) b)
  more n k h e p q =
      (λ i. e i && eqb (p i) (q i))
      ∙ ap (λ (t : Bool). same? (take n a) (take n b) && t)
      (sym (same_number (take k (drop n a)) (take k (drop n b)) (behind a ha ∙ sym (behind b hb)) (bytes_take k (drop n a) (bytes_drop a n f)) (bytes_take k (drop n b) (bytes_drop b n g))))
      ∙ sym (same_append (take n a) (take n b) (take k (drop n a)) (take k (drop n b)) (front a ha ∙ sym (front b hb)))
      ∙ (λ i. same? (sym (take-add n k a) i) (sym (take-add n k b) i))
    where
      front : (l : List ℕ) → length l ≡ 32 → length (take n l) ≡ n
      front l e = length-take-le n l (omega (arith, h, e))

      behind : (l : List ℕ) → length l ≡ 32 → length (take k (drop n l)) ≡ k
      behind l e = length-take-le k (drop n l) (rw length-drop (omega (arith, h, e)))

  nothing : true ≡ same? (take 0 a) (take 0 b)
  unfolding same?
  nothing = refl

  pub four : {x0 y0 x1 y1 x2 y2 x3 y3 : ℕ} → x0 ≡ number_at 8 0 a → y0 ≡ number_at 8 0 b → x1 ≡ number_at 8 8 a → y1 ≡ number_at 8 8 b
      → x2 ≡ number_at 8 16 a → y2 ≡ number_at 8 16 b → x3 ≡ number_at 8 24 a → y3 ≡ number_at 8 24 b
      → (eqb x0 y0 && eqb x1 y1 && eqb x2 y2 && eqb x3 y3) ≡ same? a b
  four p0 q0 p1 q1 p2 q2 p3 q3 =
      more 24 8 (omega arith) (more 16 8 (omega arith) (more 8 8 (omega arith) (more 0 8 (omega arith) nothing p0 q0) p1 q1) p2 q2) p3 q3
      ∙ (λ i. same? (take_all 32 a (omega (arith, ha)) i) (take_all 32 b (omega (arith, hb)) i))
