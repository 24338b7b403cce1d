-- The page's clauses on a phase, as limits: a number is at least and at most what the phase allows.
-- Assumes nothing.
use mathlib.Core.{Path.{◌≡◌, refl, sym, ◌∙◌, ap}, Bool.{Bool, true, false, not, ◌&&◌, ◌||◌, beq}}
use Prim.Native.Nat.{ℕ, zero, suc, ◌*◌, ◌≤◌}
use native.Mathlib.Omega.{arith}
use borrow.Author.Tests.{le-leb, lt-leb, ne_eqb}
use lib.Dec.{leb, eqb}
use mir.Val.{bool_byte}

and_true : (b : Bool) → b ≡ (b && true)
and_true true = refl
and_true false = refl

and_false : (b : Bool) → (b && false) ≡ false
and_false true = refl
and_false false = refl

and_swap : (a b : Bool) → (a && b) ≡ (b && a)
and_swap true true = refl
and_swap true false = refl
and_swap false true = refl
and_swap false false = refl

and_again : (a b c : Bool) → (a && b && c) ≡ (a && (b && c))
and_again true b c = refl
and_again false b c = refl

-- so that a limit which only a flag allows fits
pub flag : (t : Bool) → bool_byte t ≤ 1
flag true = omega arith
flag false = omega arith

-- no number but 0 is at most 0
none : (n : ℕ) → leb n 0 ≡ eqb n 0
none zero = refl
none (suc n) = lt-leb (suc n) 0 (omega arith) ∙ sym (ne_eqb (suc n) 0 (λ e. omega arith))

any : (n : ℕ) → leb 0 n ≡ true
any n = le-leb 0 n (omega arith)

-- "received is at most 16,384, and 0 in Idle;"
begun : (idle : Bool) (received : ℕ) → leb received (bool_byte (not idle) * 16384) ≡ (leb received 16384 && (not idle || eqb received 0))
begun false received = and_true (leb received 16384)
begun true zero = refl
begun true (suc n) = none (suc n) ∙ e ∙ sym (ap (λ (t : Bool). leb (suc n) 16384 && t) e ∙ and_false (leb (suc n) 16384))
  where
    e : eqb (suc n) 0 ≡ false
    e = ne_eqb (suc n) 0 (λ q. omega arith)

-- "ticks left is 1 to 8 in Verifying and 0 elsewhere;"
ticked : (verifying : Bool) (ticks : ℕ) (before : Bool)
    → (before && leb (bool_byte verifying) ticks && leb ticks (bool_byte verifying * 8))
    ≡ (before && (not verifying || (leb 1 ticks && leb ticks 8)) && (verifying || eqb ticks 0))
ticked true ticks before = and_again before (leb 1 ticks) (leb ticks 8) ∙ and_true (before && (leb 1 ticks && leb ticks 8))
ticked false ticks before = λ i. before && any ticks i && none ticks i

pub numbers : (idle verifying : Bool) (received ticks : ℕ) (after : Bool)
    → (leb received (bool_byte (not idle) * 16384) && leb (bool_byte verifying) ticks && leb ticks (bool_byte verifying * 8) && after)
    ≡ (leb received 16384 && (not idle || eqb received 0) && (not verifying || (leb 1 ticks && leb ticks 8)) && (verifying || eqb ticks 0) && after)
numbers idle verifying received ticks after =
    ap (λ (t : Bool). t && after)
    (ap (λ (t : Bool). t && leb (bool_byte verifying) ticks && leb ticks (bool_byte verifying * 8)) (begun idle received)
    ∙ ticked verifying ticks (leb received 16384 && (not idle || eqb received 0)))

-- document 02, T-03: "a possible record has 1 to 5 and 0 to 127 there and zeros elsewhere"
pub fault : (failed : Bool) (reason faulty : ℕ)
    → (leb reason 5 && beq (leb 1 reason) failed && leb faulty (bool_byte failed * 127))
    ≡ ((not failed || (leb 1 reason && leb reason 5 && leb faulty 127)) && (failed || (eqb reason 0 && eqb faulty 0)))
fault true reason faulty =
    ap (λ (t : Bool). leb reason 5 && t && leb faulty 127) (is_on (leb 1 reason))
    ∙ ap (λ (t : Bool). t && leb faulty 127) (and_swap (leb reason 5) (leb 1 reason))
    ∙ and_true (leb 1 reason && leb reason 5 && leb faulty 127)
  where
    is_on : (b : Bool) → beq b true ≡ b
    is_on true = refl
    is_on false = refl
fault false zero faulty = none faulty
fault false (suc reason) faulty =
    ap (λ (t : Bool). leb (suc reason) 5 && beq t false && leb faulty 0) (le-leb 1 (suc reason) (omega arith))
    ∙ ap (λ (t : Bool). t && leb faulty 0) (and_false (leb (suc reason) 5))
    ∙ sym (ap (λ (t : Bool). t && eqb faulty 0) (ne_eqb (suc reason) 0 (λ e. omega arith)))
