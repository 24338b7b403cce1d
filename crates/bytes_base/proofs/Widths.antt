-- A number's eight bytes, written in fewer places or in more.
-- Assumes nothing.
use mathlib.Core.{Path.{◌≡◌, refl, sym, ◌∙◌, ap}, Bool.{Bool, true, false}, List.{List, ◌∷◌, ◌++◌, append-nil}}
use Prim.Native.Nat.{ℕ, zero, suc, min, ◌≤◌, ◌<◌, ◌+◌, ◌-◌, ◌/◌, ◌%◌, ◌^◌}
use native.Mathlib.{Nat.{pow-suc, sub-zero, div-lt_iff_lt-mul, min-eq_left, min-eq_right, min-le_right}, Omega.arith}
use borrow.Author.Tests.{leb-true, leb-false}
use lib.{Dec.leb, ListN.{length, take}, Seq.length-take-le}
use Rattle.rules.{specs.Bytes.{le, zeros, splice}, proofs.page.Le.length_le}
use Rattle.bytes_base.proofs.Parts.{splice_splice}

-- the first bytes of a number's bytes
take_le : (k width n : ℕ) → k ≤ width → take k (le width n) ≡ le k n
take_le zero width n h = refl
take_le (suc k) zero n h = absurd (omega arith)
take_le (suc k) (suc width) n h = ap (λ (bytes : List ℕ). n % 256 ∷ bytes) (take_le k width (n / 256) (omega arith))

le_zero : (k : ℕ) → le k 0 ≡ zeros k
le_zero zero = refl
le_zero (suc k) = ap (λ (bytes : List ℕ). 0 ∷ bytes) (le_zero k)

-- zeros stand behind the bytes that hold a number
le_wide : (k width n : ℕ) → n < 256 ^ k → k ≤ width → le k n ++ zeros (width - k) ≡ le width n
le_wide zero width n h w = let none : n ≡ 0 = omega arith in rw (none, sub-zero) (sym (le_zero width))
le_wide (suc k) zero n h w = absurd (omega arith)
le_wide (suc k) (suc width) n h w =
    let less : n / 256 < 256 ^ k = (div-lt_iff_lt-mul {k = 256} (omega arith)).1 (rw pow-suc at h) in
    let left : suc width - suc k ≡ width - k = omega arith in
    rw left (ap (λ (bytes : List ℕ). n % 256 ∷ bytes) (le_wide k width (n / 256) less (omega arith)))

-- a number of 64 bits in any width: its own bytes, as many as fit, and zeros behind them
own_and_zeros : (width n : ℕ) {own : ℕ} {bytes : List ℕ} → n < 2 ^ 64 → own ≡ min width 8 → bytes ≡ le 8 n → take own bytes ++ zeros (width - own) ≡ le width n
own_and_zeros width n {own} {bytes} small k b = go (leb width 8) refl
  where
    go : (t : Bool) → leb width 8 ≡ t → take own bytes ++ zeros (width - own) ≡ le width n
    go true e =
        let h : width ≤ 8 = leb-true width 8 e in
        let all : own ≡ width = k ∙ min-eq_left h in
        let none : width - own ≡ 0 = omega arith in
        rw (none, append-nil, all, b) (take_le width 8 n h)
    go false e =
        let h : 8 ≤ width = omega (arith, leb-false width 8 e) in
        let eight : own ≡ 8 = k ∙ min-eq_right h in
        rw (eight, b) (le_wide 8 width n small h)

-- what `put_at` writes: the number's own bytes first, then the zeros
pub two_parts : (at width number : ℕ) (out : List ℕ) {own : ℕ} {bytes first last : List ℕ} → at + width ≤ length out → number < 2 ^ 64
    → own ≡ min width 8 → bytes ≡ le 8 number → first ≡ splice at (take own bytes) out → last ≡ splice (at + own) (zeros (width - own)) first → last ≡ splice at (le width number) out
two_parts at width number out {own} {bytes} {first} {last} room small k b one two =
    let long : length bytes ≡ 8 = ap length b ∙ length_le 8 number in
    let front : List ℕ = take own bytes in
    let behind : List ℕ = zeros (width - own) in
    let place : length front ≡ own = length-take-le own bytes (omega (arith, k, min-le_right width 8)) in
    two
    ∙ ap (λ (p : ℕ). splice (at + p) behind first) (sym place)
    ∙ ap (splice (at + length front) behind) one
    ∙ splice_splice at front behind out (omega (arith, room))
    ∙ ap (λ (whole : List ℕ). splice at whole out) (own_and_zeros width number small k b)
