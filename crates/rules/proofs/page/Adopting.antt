-- Document 02, T-03, T-08 and T-09: the parts of a record that was possible before are possible still, but in Failed; and taken over it is module 0 of a possible cabinet.
-- Assumes nothing.
use mathlib.Core.{Path.{◌≡◌, refl, sym, ◌∙◌, ap, subst}, Logic.◌↔◌, Bool.{Bool, true, false, not, ◌&&◌, ◌||◌}}
use Prim.Native.Nat.{ℕ}
use native.Mathlib.Omega.{arith}
use Rattle.std.specs.Prelude.{if◌then◌else◌}
use Rattle.rules.specs.{Tests.{◌=?◌, ◌≤?◌}, Bytes.zeros?, With.{◌with_phase◌, ◌with_received◌}}
use Rattle.rules.specs.{Record.{◌is◌, current, has_area, fresh, possible, possible_current, possible_numbers, possible_fault, possible_transfer, possible_security, possible_thresholds, possible_reading, possible_parts, possible_trips, possible_cabinet, renewed}, Health.{above, trips}}
use Rattle.rules.specs.Adopt.{given_alone, possible_alone, possible_parts_alone, possible_before, kept_before, adoptable, idle_again, adopted, adopted_cabinet, Adopting, no_reading}
use Rattle.rules.specs.{declared.Phase.Phase, declared.Phase.TheVariants.{Idle, Receiving, Verifying, Staged, Failed}, declared.Transfer.Transfer, declared.Device.Device}
use borrow.Author.Tests.{eqb-true, eq-eqb, le-leb, lt-leb}
use Rattle.rules.proofs.{page.Choice.{and_true, and_3, if_both, and_4}, page.Facts.{never, is_phase}, page.Keeps.{PhaseOk, tests, current_tested, tested, fault_test, fault_tested}}

-- what a record that was possible before has
record Before (d : Device) : Type 0 where
  own : possible_current (given_alone d) d.transfer ≡ true
  numbers : possible_numbers d.transfer ≡ true
  no_reason : d.transfer.reason ≡ 0
  no_record : d.transfer.faulty ≡ 0
  secured : possible_security d.security ≡ true
  limited : possible_thresholds d.thresholds ≡ true
  read : possible_reading d.reading ≡ true

before : (d : Device) → possible_before d ≡ true → Before d
unfolding possible_before possible_reading
before d e =
    let t = d.transfer in
    let all = and_4 (possible_current (given_alone d) t && possible_numbers t && (t.reason =? 0 && t.faulty =? 0)) (possible_security d.security) (possible_thresholds d.thresholds) (no_reading d.reading) e in
    let three = and_3 (possible_current (given_alone d) t) (possible_numbers t) (t.reason =? 0 && t.faulty =? 0) all.0 in
    let none = and_true (t.reason =? 0) (t.faulty =? 0) three.2 in
    let r = d.reading in
    let spare = eqb-true r.spare 0 (and_3 (r.spare =? 0) (r.media =? 0) (r.controller =? 0) all.3).0 in
    record {
      own = three.0;
      numbers = three.1;
      no_reason = eqb-true t.reason 0 none.0;
      no_record = eqb-true t.faulty 0 none.1;
      secured = all.1;
      limited = all.2;
      read = ap (λ (x : ℕ). x ≤? 100) spare;
    }

-- its parts are possible where it has a fault that its phase allows: none, but in Failed, where it must have one
by_fault : (d : Device) → Before d → possible_parts_alone d ≡ possible_fault d.transfer
unfolding possible_parts possible_transfer
by_fault d b = rw (b.own, b.numbers, b.secured, b.limited, b.read) (go (possible_fault d.transfer))
  where
    go : (x : Bool) → (x && true && true && true) ≡ x
    go true = refl
    go false = refl

zero_fault : (p : Phase) (t : Transfer) → t.reason ≡ 0 → t.faulty ≡ 0 → (p is Failed) ≡ false → fault_test p t ≡ true
zero_fault Idle t a b n = fault_tested Idle t (a, b)
zero_fault Receiving t a b n = fault_tested Receiving t (a, b)
zero_fault Verifying t a b n = fault_tested Verifying t (a, b)
zero_fault Staged t a b n = fault_tested Staged t (a, b)
zero_fault Failed t a b n = never n

failed_fault : (p : Phase) (t : Transfer) → t.reason ≡ 0 → (p is Failed) ≡ true → fault_test p t ≡ false
failed_fault Idle t a n = never (sym n)
failed_fault Receiving t a n = never (sym n)
failed_fault Verifying t a n = never (sym n)
failed_fault Staged t a n = never (sym n)
failed_fault Failed t a n = rw (lt-leb 1 t.reason (omega (arith, a)))

-- so they are exactly outside Failed
unless_failed : (d : Device) → Before d → (b : Bool) → (d.transfer.phase is Failed) ≡ b → possible_parts_alone d ≡ not b
unless_failed d w false e = by_fault d w ∙ zero_fault d.transfer.phase d.transfer w.no_reason w.no_record e
unless_failed d w true e = by_fault d w ∙ failed_fault d.transfer.phase d.transfer w.no_reason e

failed_alone : (d : Device) → possible_before d ≡ true → (possible_parts_alone d ≡ false) ↔ (d.transfer.phase ≡ Failed)
failed_alone d e =
    (λ n. go (d.transfer.phase is Failed) refl n, λ f. unless_failed d (before d e) true (ap (λ (p : Phase). p is Failed) f))
  where
    go : (b : Bool) → (d.transfer.phase is Failed) ≡ b → possible_parts_alone d ≡ false → d.transfer.phase ≡ Failed
    go true f n = is_phase d.transfer.phase Failed f
    go false f n = never (sym (unless_failed d (before d e) false f) ∙ n)

-- one in Failed, taken over
idle_then : (d : Device) → Before d → d.transfer.phase ≡ Failed → possible_parts_alone (idle_again d) ≡ true
unfolding possible_parts possible_transfer
idle_then d w f =
    let k = tests d.transfer.phase (given_alone d) d.transfer w.own w.numbers in
    let q : PhaseOk Failed d.transfer = subst (λ (p : Phase). PhaseOk p d.transfer) f k.2 in
    let t = d.transfer with_phase Idle with_received 0 in
    let idle : PhaseOk Idle t = (refl, q.1, q.2) in
    rw (
      current_tested Idle (given_alone d) t k.1 idle,
      tested Idle t (omega arith) idle,
      fault_tested Idle t (w.no_reason, w.no_record),
      w.secured,
      w.limited,
      w.read,
    )

-- one kept before T-08 whose parts are not possible was kept before T-03
before_T03 : (d : Device) → possible_parts_alone d ≡ false → kept_before d ≡ true → possible_before d ≡ true
unfolding kept_before
before_T03 d q e = rw q at (and_true (d.trips =? 0) (possible_parts_alone d || possible_before d) e).1

not_possible : (d : Device) → possible_parts_alone d ≡ false → possible_alone d ≡ false
unfolding possible
not_possible d q = rw q

-- with the byte renewed a record is possible where its parts are
parts_stay : (given : ℕ) (d : Device) → possible_parts given (renewed d) ≡ possible_parts given d
unfolding possible_parts
parts_stay given d = refl

renewed_then : (given : ℕ) (d : Device) → possible_parts given d ≡ true → possible given (renewed d) ≡ true
unfolding possible possible_trips
renewed_then given d e = rw (parts_stay given d ∙ e) (eq-eqb (trips d.thresholds d.reading) (trips d.thresholds d.reading) refl)

first_then : (d : Device) → adoptable d ≡ true → possible (given_alone d) (adopted d) ≡ true
first_then d e = go (possible_alone d) refl (possible_parts_alone d) refl
  where
    go : (b : Bool) → possible_alone d ≡ b → (c : Bool) → possible_parts_alone d ≡ c → possible (given_alone d) (adopted d) ≡ true
    go true p c q = rw p p
    go false p true q = rw (p, q) (renewed_then (given_alone d) d q)
    go false p false q =
        let was : possible_before d ≡ true = before_T03 d q (rw p at e) in
        rw (p, q) (renewed_then (given_alone d) (idle_again d) (idle_then d (before d was) ((failed_alone d was).0 q)))

-- a fresh module is possible beside any number of contexts given out, and has not the area
second_then : (given : ℕ) → possible given fresh ≡ true
unfolding possible possible_parts possible_transfer possible_security possible_thresholds possible_reading possible_trips zeros? above trips
second_then given = rw (le-leb 0 given (omega arith))

none_beside : (b : Bool) → not (b && false) ≡ true
none_beside true = refl
none_beside false = refl

possible_then : (d : Device) → adoptable d ≡ true → possible_cabinet (adopted_cabinet d) ≡ true
unfolding possible_cabinet
possible_then d e = rw (first_then d e, second_then (given_alone d)) (none_beside (has_area (adopted d).transfer))

-- Of records kept before.
pub adopting : Adopting
adopting =
    record {
      possible_then = possible_then;
      failed_alone = failed_alone;
      as_it_is = λ d e. ap (λ (b : Bool). if b then d else if possible_parts_alone d then renewed d else renewed (idle_again d)) e;
      byte_renewed = λ d e f. rw (e, f);
      else_idle = λ d e. rw (not_possible d e, e);
      contexts_kept = λ d. (
        refl,
        if_both (λ (taken : Device). current taken.transfer ≡ current d.transfer) (possible_alone d) refl
            (if_both (λ (taken : Device). current taken.transfer ≡ current d.transfer) (possible_parts_alone d) refl refl),
      );
      second_fresh = λ d. refl;
    }
