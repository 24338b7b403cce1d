-- A number in decimal: the digits that `io::decimal` writes are the definition's.
-- Assumes nothing.
use mathlib.Core.{Path.{◌≡◌, refl, subst}, Bool.{Bool, true, false}, List.{[], ◌∷◌}}
use Prim.Native.Nat.{ℕ, zero, suc, ◌≤◌, ◌<◌, ◌+◌, ◌-◌, ◌*◌, ◌^◌, ◌/◌, ◌%◌}
use native.Mathlib.{Nat.{pow-suc, pow-le-pow_right, div-lt_iff_lt-mul, le-div_iff_mul-le}, Omega.arith}
use borrow.Author.Tests.{lt-ltb, le-ltb, leb-true, leb-false}
use lib.Dec.{leb}
use Rattle.rules.specs.Text.{shown, decimal}
use Rattle.io.specs.Digits.{last_digits, hex_digit_ascii, IsDigitCount}

ten_pos : (r : ℕ) → 0 < 10 ^ r
ten_pos zero = omega arith
ten_pos (suc r) =
    let h : 0 < 10 ^ r = ten_pos r in
    rw pow-suc (omega arith)

digit : (n : ℕ) → hex_digit_ascii (n % 10) ≡ 48 + n % 10
digit n = rw (lt-ltb (n % 10) 10 (omega arith)) refl

-- the fewest digits that hold a number are the number as the definition shows it
shown_digits : (k r n : ℕ) → r ≤ k → IsDigitCount 10 1 n r → last_digits 10 r n ≡ shown k n
shown_digits k zero n h f = absurd (omega (arith, f.0))
shown_digits zero (suc r) n h f = absurd (omega (arith, h))
shown_digits (suc k) (suc zero) n h f =
    let small : n < 10 = omega (arith, f.1) in
    let same : n % 10 ≡ n = omega arith in
    rw (lt-ltb n 10 small, digit n, same) refl
shown_digits (suc k) (suc (suc r)) n h f =
    let low : 10 ^ (suc (suc r) - 1) ≤ n = f.2 (omega arith) in
    let less : suc (suc r) - 1 ≡ suc r = omega arith in
    let low' : 10 ^ r * 10 ≤ n = rw (less, pow-suc) at low in
    let one : 0 < 10 ^ r = ten_pos r in
    let big : 10 ≤ n = omega arith in
    let up : n < 10 ^ suc r * 10 = rw pow-suc at f.1 in
    let less' : r ≡ suc r - 1 = omega arith in
    let f' : IsDigitCount 10 1 (n / 10) (suc r) =
    (omega arith, (div-lt_iff_lt-mul {k = 10} (omega arith)).1 up, λ _. subst (λ (m : ℕ). 10 ^ m ≤ n / 10) less' ((le-div_iff_mul-le {k = 10} (omega arith)).1 low')) in
    rw (le-ltb n 10 big, digit n, shown_digits k (suc r) (n / 10) (omega arith) f') refl

-- a number of 64 bits has at most 20 digits
pub at_most_20 : (r n : ℕ) → n < 2 ^ 64 → IsDigitCount 10 1 n r → r ≤ 20
at_most_20 r n h f = go (leb r 20) refl
  where
    go : (t : Bool) → leb r 20 ≡ t → r ≤ 20
    go true e = leb-true r 20 e
    go false e =
        let more : 20 < r = leb-false r 20 e in
        let back : 20 ≤ r - 1 = omega arith in
        let big : 10 ^ 20 ≤ 10 ^ (r - 1) = pow-le-pow_right (omega arith) back in
        let low : 10 ^ (r - 1) ≤ n = f.2 (omega arith) in
        absurd (omega arith)

pub decimal_digits : (r n : ℕ) → r ≤ 20 → IsDigitCount 10 1 n r → last_digits 10 r n ≡ decimal n
unfolding decimal
decimal_digits r n h f = shown_digits 20 r n h f

-- a number below 10 is its digit
pub decimal_digit : (n : ℕ) → n < 10 → (48 + n) ∷ [] ≡ decimal n
unfolding decimal
decimal_digit n h = rw (lt-ltb n 10 h) refl
