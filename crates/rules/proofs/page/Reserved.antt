-- Document 02, T-05: reserved bits and bytes are judged before any other field; and an accepted Set Threshold has no bit for the mask to clear.
-- Assumes nothing.
use Prim.Native.Nat.{ℕ, ◌/◌, ◌%◌, ◌^◌, ◌≤◌, ◌<◌}
use mathlib.Core.{Path.{◌≡◌, refl}, Bool.{Bool, true, false}}
use native.Mathlib.{Omega.arith, Nat.{div-lt_iff_lt-mul, pow-le-pow_right}}
use borrow.Author.Tests.{lt-ltb, le-ltb, ltb-true, ltb-false, eqb-true}
use Rattle.rules.specs.{Tests.◌<?◌, Bytes.on, Refusals.verdict, Thresholds.{SetThreshold, threshold_checks}, Reserved.RequestT05}
use Rattle.rules.proofs.page.Passed.{passed}

-- below 8 no bit from 3 on is on
any_bit : (k enable : ℕ) → 3 ≤ k → on k enable ≡ true → 7 < enable
any_bit k enable l e = go (7 <? enable) refl
  where
    odd : (enable / 2 ^ k) % 2 ≡ 1
    odd = eqb-true ((enable / 2 ^ k) % 2) 1 e

    go : (b : Bool) → (7 <? enable) ≡ b → 7 < enable
    go true f = ltb-true 7 enable f
    go false f =
        let few = ltb-false 7 enable f in
        let large : 8 ≤ 2 ^ k = pow-le-pow_right {n = 2} (omega arith) {i = 3} {j = k} l in
        let none : enable / 2 ^ k < 1 = (div-lt_iff_lt-mul {k = 2 ^ k} {x = enable} {y = 1} (omega (arith, large))).1 (omega (arith, few, large)) in
        absurd (omega (arith, odd, none))

pub request_T05 : RequestT05
unfolding verdict
request_T05 =
    record {
      finish_reserved = λ t flag reserved context e. rw e;
      finish_zeros = λ t flag reserved context e. rw e;
      any_bit = any_bit;
      set_reserved = λ enable spare media controller l. rw (lt-ltb 7 enable l);
      set_zeros = λ enable spare media controller l. rw (le-ltb 7 enable l);
      nothing_cleared = λ h enable spare media controller v.
          let few = ltb-false 7 enable (passed (threshold_checks (SetThreshold enable spare media controller)) v).0 in
          let same : enable % 8 ≡ enable = omega arith in
          λ i. record { enable = same i; spare = spare; media = media; controller = controller };
    }
