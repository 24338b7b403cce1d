-- The trips by shifts and by the enable bits are the trips by sums.
-- Assumes nothing.
use mathlib.Core.{Path.{◌≡◌, refl, ◌∙◌, ap, subst, sym}, Bool.{Bool, true, false, ◌&&◌}}
use Prim.Native.Nat.{ℕ, zero, suc, ◌+◌, ◌*◌, ◌/◌, ◌%◌, ◌<◌, ◌≤◌, min}
use native.Mathlib.Omega.{arith}
use lib.{Bits.{bit_and, bit_or, and_step, and_le_r, and_zero_r}, Dec.{eqb, ltb}}
use mir.Val.{bool_byte}
use Rattle.rules.{specs.Bytes.{bit, on}, specs.Health.{above, trips}, specs.declared.Thresholds.Thresholds, specs.declared.Reading.Reading}

-- three flags, shifted apart
abbrev shifted : (a b c : Bool) → ℕ
shifted a b c = bit_or (bit_or (bool_byte a) (bool_byte b * 2 % 65536)) (bool_byte c * 4 % 65536)

-- the same, the first of them lowest
stacked : (a b c : Bool) → shifted a b c ≡ bit 0 a + (bit 0 b + (bit 0 c + 0 * 2) * 2) * 2
stacked true true true = refl
stacked true true false = refl
stacked true false true = refl
stacked true false false = refl
stacked false true true = refl
stacked false true false = refl
stacked false false true = refl
stacked false false false = refl

-- the lowest bit of the two, and what they have above it
lowest : (n e : ℕ) (a : Bool) → bit_and e (bit 0 a + n * 2) ≡ bit_and (e / 2) n * 2 + bit 0 (eqb (e % 2) 1 && a)
lowest n e a = and_step e (bit 0 a + n * 2) ∙ (λ i. bit_and (e / 2) (rest a i) * 2 + min (e % 2) (first a i)) ∙ ap (λ (k : ℕ). bit_and (e / 2) n * 2 + k) (least (e % 2) a (omega arith))
  where
    rest : (a : Bool) → (bit 0 a + n * 2) / 2 ≡ n
    rest true = omega arith
    rest false = omega arith

    first : (a : Bool) → (bit 0 a + n * 2) % 2 ≡ bit 0 a
    first true = omega arith
    first false = omega arith

    least : (k : ℕ) (a : Bool) → k < 2 → min k (bit 0 a) ≡ bit 0 (eqb k 1 && a)
    least zero true h = refl
    least zero false h = refl
    least (suc zero) true h = refl
    least (suc zero) false h = refl
    least (suc (suc k)) a h = absurd (omega arith)

-- the enable bits over the three flags
enabled : (e : ℕ) (a b c : Bool) → bit_and e (shifted a b c) ≡ bit 0 (on 0 e && a) + bit 1 (on 1 e && b) + bit 2 (on 2 e && c)
enabled e a b c =
    ap (bit_and e) (stacked a b c)
    ∙ lowest (bit 0 b + (bit 0 c + 0 * 2) * 2) e a
    ∙ ap (λ (n : ℕ). n * 2 + bit 0 (eqb (e % 2) 1 && a)) (lowest (bit 0 c + 0 * 2) (e / 2) b)
    ∙ ap (λ (n : ℕ). (n * 2 + bit 0 (eqb (e / 2 % 2) 1 && b)) * 2 + bit 0 (eqb (e % 2) 1 && a)) (lowest 0 (e / 2 / 2) c)
    ∙ ap (λ (n : ℕ). ((n * 2 + bit 0 (eqb (e / 2 / 2 % 2) 1 && c)) * 2 + bit 0 (eqb (e / 2 % 2) 1 && b)) * 2 + bit 0 (eqb (e % 2) 1 && a)) (and_zero_r (e / 2 / 2 / 2))
    ∙ summed (eqb (e % 2) 1 && a) (eqb (e / 2 % 2) 1 && b) (eqb (e / 2 / 2 % 2) 1 && c)
    ∙ (λ i. bit 0 (eqb (whole i % 2) 1 && a) + bit 1 (on 1 e && b) + bit 2 (eqb (quarter i % 2) 1 && c))
  where
    summed : (a b c : Bool) → ((0 * 2 + bit 0 c) * 2 + bit 0 b) * 2 + bit 0 a ≡ bit 0 a + bit 1 b + bit 2 c
    summed true true true = refl
    summed true true false = refl
    summed true false true = refl
    summed true false false = refl
    summed false true true = refl
    summed false true false = refl
    summed false false true = refl
    summed false false false = refl

    whole : e ≡ e / 1
    whole = omega arith

    quarter : e / 2 / 2 ≡ e / 4
    quarter = omega arith

pub tripped : (h : Thresholds) (r : Reading) {media controller : Bool} → media ≡ above r.media h.media → controller ≡ above r.controller h.controller
    → bit_and h.enable (shifted (ltb r.spare h.spare) media controller) ≡ trips h r
unfolding trips
tripped h r {media} {controller} m c =
    enabled h.enable (ltb r.spare h.spare) media controller
    ∙ (λ i. bit 0 (on 0 h.enable && ltb r.spare h.spare) + bit 1 (on 1 h.enable && m i) + bit 2 (on 2 h.enable && c i))

-- and fit a byte
pub a_byte : (e : ℕ) (a b c : Bool) → bit_and e (shifted a b c) < 256
a_byte e a b c = omega (arith, and_le_r e (shifted a b c), small a b c)
  where
    small : (a b c : Bool) → shifted a b c < 8
    small true true true = omega arith
    small true true false = omega arith
    small true false true = omega arith
    small true false false = omega arith
    small false true true = omega arith
    small false true false = omega arith
    small false false true = omega arith
    small false false false = omega arith
