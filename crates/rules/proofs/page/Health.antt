-- Document 02, T-04: words compared by sign and size are in the order of the integers that they measure.
-- Assumes nothing.
use Prim.Native.Nat.{ℕ, zero, suc, ◌+◌, ◌<◌}
use mathlib.Core.{Path.{◌≡◌, refl, sym, ◌∙◌, ap, subst}, Logic.◌↔◌, Bool.{Bool, true, false, ◌&&◌}}
use native.Mathlib.Omega.{arith}
use borrow.Author.Tests.{lt-ltb, le-ltb, ltb-true, ltb-false}
use lib.{Dec.T, IntN.{ℤ, pos, neg_ℤ}, Signed.{lt_z, ◌<ℤ◌, lt_z_yes}}
use Rattle.std.specs.Prelude.{if◌then◌else◌}
use Rattle.rules.specs.{Tests.{◌<?◌}, Bytes.{bit, on}, Health.{size, negative, sixteenths, above, spare_trips, media_trips, controller_trips, trips, RequestT04}}
use Rattle.rules.specs.{declared.Thresholds.Thresholds, declared.Reading.Reading}
use Rattle.rules.proofs.page.Choice.{and_true}

-- the integer of a sign and a size; and the comparison of two such
abbrev signed : Bool → ℕ → ℤ
signed minus n = if minus then neg_ℤ (pos n) else pos n

abbrev greater : (minus : Bool) (n : ℕ) (other : Bool) (k : ℕ) → Bool
greater minus n other k = if minus then other && n <? k else if other then 0 <? n + k else k <? n

compared : (minus : Bool) (n : ℕ) (other : Bool) (k : ℕ) → greater minus n other k ≡ lt_z (signed other k) (signed minus n)
compared false n false k = refl
compared false zero true zero = refl
compared false zero true (suc k) = lt-ltb 0 (0 + suc k) (omega arith)
compared false (suc n) true zero = lt-ltb 0 (suc n + 0) (omega arith) ∙ sym (lt-ltb 0 (suc n) (omega arith))
compared false (suc n) true (suc k) = lt-ltb 0 (suc n + suc k) (omega arith)
compared true zero false zero = refl
compared true zero false (suc k) = sym (le-ltb (suc k) 0 (omega arith))
compared true (suc n) false zero = refl
compared true (suc n) false (suc k) = refl
compared true zero true zero = refl
compared true zero true (suc k) = lt-ltb 0 (suc k) (omega arith)
compared true (suc n) true zero = le-ltb (suc n) 0 (omega arith)
compared true (suc n) true (suc k) = both (n <? k) refl
  where
    both : (b : Bool) → (n <? k) ≡ b → (suc n <? suc k) ≡ (n <? k)
    both true e = lt-ltb (suc n) (suc k) (omega (arith, ltb-true n k e)) ∙ sym e
    both false e = le-ltb (suc n) (suc k) (omega (arith, ltb-false n k e)) ∙ sym e

in_order : (word other : ℕ) → (above word other ≡ true) ↔ (sixteenths other <ℤ sixteenths word)
unfolding above
in_order word other =
    let e = compared (negative word) (size word) (negative other) (size other) in
    (λ t. lt_z_yes (subst T (sym (sym e ∙ t)) tt), λ l. e ∙ is_true _ l.lt)
  where
    is_true : (b : Bool) → T b → b ≡ true
    is_true true t = refl
    is_true false t = absurd t

-- each bit of a sum of three is its own
bit_0 : (a b c : Bool) → on 0 (bit 0 a + bit 1 b + bit 2 c) ≡ a
bit_0 true true true = refl
bit_0 true true false = refl
bit_0 true false true = refl
bit_0 true false false = refl
bit_0 false true true = refl
bit_0 false true false = refl
bit_0 false false true = refl
bit_0 false false false = refl

bit_1 : (a b c : Bool) → on 1 (bit 0 a + bit 1 b + bit 2 c) ≡ b
bit_1 true true true = refl
bit_1 true true false = refl
bit_1 true false true = refl
bit_1 true false false = refl
bit_1 false true true = refl
bit_1 false true false = refl
bit_1 false false true = refl
bit_1 false false false = refl

bit_2 : (a b c : Bool) → on 2 (bit 0 a + bit 1 b + bit 2 c) ≡ c
bit_2 true true true = refl
bit_2 true true false = refl
bit_2 true false true = refl
bit_2 true false false = refl
bit_2 false true true = refl
bit_2 false true false = refl
bit_2 false false true = refl
bit_2 false false false = refl

below_8 : (a b c : Bool) → bit 0 a + bit 1 b + bit 2 c < 8
below_8 true true true = omega arith
below_8 true true false = omega arith
below_8 true false true = omega arith
below_8 true false false = omega arith
below_8 false true true = omega arith
below_8 false true false = omega arith
below_8 false false true = omega arith
below_8 false false false = omega arith

-- an alarm that is enabled and past its threshold
both_true : (a b : Bool) → a ≡ true → b ≡ true → (a && b) ≡ true
both_true a b e f = ap (λ (x : Bool). x && b) e ∙ f

tripped : {P : Type 0} (bit alarm enabled past : Bool) → bit ≡ alarm → alarm ≡ (enabled && past) → (past ≡ true) ↔ P → (bit ≡ true) ↔ ((enabled ≡ true) × P)
tripped bit alarm enabled past e f exactly =
    (λ t. let two = and_true enabled past (sym f ∙ sym e ∙ t) in (two.0, exactly.0 two.1), λ p. e ∙ f ∙ both_true enabled past p.0 (exactly.1 p.1))

by_trips : (h : Thresholds) (r : Reading) → trips h r ≡ bit 0 (spare_trips h r) + bit 1 (media_trips h r) + bit 2 (controller_trips h r)
unfolding trips
by_trips h r = refl

module _ (h : Thresholds) (r : Reading) where
  spare_trips_law : (on 0 (trips h r) ≡ true) ↔ ((on 0 h.enable ≡ true) × (r.spare < h.spare))
  spare_trips_law =
      tripped (on 0 (trips h r)) (spare_trips h r) (on 0 h.enable) (r.spare <? h.spare)
      (ap (on 0) (by_trips h r) ∙ bit_0 (spare_trips h r) (media_trips h r) (controller_trips h r)) refl
      (ltb-true r.spare h.spare, lt-ltb r.spare h.spare)

  media_trips_law : (on 1 (trips h r) ≡ true) ↔ ((on 1 h.enable ≡ true) × (sixteenths h.media <ℤ sixteenths r.media))
  media_trips_law =
      tripped (on 1 (trips h r)) (media_trips h r) (on 1 h.enable) (above r.media h.media)
      (ap (on 1) (by_trips h r) ∙ bit_1 (spare_trips h r) (media_trips h r) (controller_trips h r)) refl (in_order r.media h.media)

  controller_trips_law : (on 2 (trips h r) ≡ true) ↔ ((on 2 h.enable ≡ true) × (sixteenths h.controller <ℤ sixteenths r.controller))
  controller_trips_law =
      tripped (on 2 (trips h r)) (controller_trips h r) (on 2 h.enable) (above r.controller h.controller)
      (ap (on 2) (by_trips h r) ∙ bit_2 (spare_trips h r) (media_trips h r) (controller_trips h r)) refl (in_order r.controller h.controller)

  no_other_bit : trips h r < 8
  no_other_bit = subst (λ (n : ℕ). n < 8) (sym (by_trips h r)) (below_8 (spare_trips h r) (media_trips h r) (controller_trips h r))

pub request_T04 : RequestT04
request_T04 =
    record { in_order = in_order; minus_zero = refl; spare_trips_law = spare_trips_law; media_trips_law = media_trips_law; controller_trips_law = controller_trips_law; no_other_bit = no_other_bit }
