-- Every act takes what a possible cabinet has to what a possible cabinet has: each module's two parts, and that only one module has the area. The facts; the theorems are in
-- proofs/page/Possible.antt.
-- Assumes nothing.
use Prim.Native.Nat.{ℕ, ◌-◌, ◌≤◌, ◌<◌}
use mathlib.Core.{Path.{◌≡◌, refl, sym, ◌∙◌, ap, subst}, Bool.{Bool, true, false, not, ◌&&◌, ◌||◌}, List.{List, ◌∷◌, []}}
use native.Mathlib.Omega.{arith}
use lib.ListN.{length, length-append, length-take, length-drop}
use borrow.Author.Tests.{ltb-true, ltb-false, leb-true, lt-ltb, le-leb, eqb-true, eqb-false, eq-eqb, not-true, not-false}
use Rattle.std.specs.Prelude.{if◌then◌else◌}
use Rattle.rules.specs.{Tests.{◌=?◌, ◌<?◌, ◌≤?◌, ◌implies◌, ◌unless◌}, Bytes.zeros?, Numbers.{area_size, verification, attempt_limit, last_context}}
use Rattle.rules.specs.{With.{◌with_ticks◌, ◌with_phase◌, ◌with_received◌}, Health.trips}
use Rattle.rules.specs.{Record.{◌is◌, has_area, possible, possible_parts, possible_current, possible_numbers, possible_fault, possible_transfer, possible_security, possible_thresholds, possible_reading, possible_trips, current}, Refusals.{Check, ◌gives◌, verdict}}
use Rattle.rules.specs.{Thresholds.{GetThreshold, SetThreshold}, Transfer.{TransferCall, GetFwInfo, Start, Send, Finish, Query, tick_change}}
use Rattle.rules.specs.{Security.{SecurityCall, GetSecurityState, SetPassphrase, Disable, Unlock, Freeze, security_checks, wrong}, declared.Refusal.Refusal}
use Rattle.rules.specs.{declared.Refusal.TheVariants.{R, Status}, declared.Phase.Phase}
use Rattle.rules.specs.{declared.Phase.TheVariants.{Idle, Receiving, Verifying, Staged, Failed}, declared.Transfer.Transfer, declared.Security.Security, declared.Reading.Reading, declared.Device.Device}
use Rattle.rules.proofs.page.Choice.{or_false, and_true, and_3, and_4, and_5, if_both}
use Rattle.rules.proofs.page.Split.{Seen, turned, taken, TransferPart, ◌with_part◌, Rest, part_of, rest_of, RestCall, Masks, Healths, Limits, Locks, Nothing, Doing, Transfers, Others, Powers, Reads, Act, Mine, Theirs, Ticks, read_verdict, rest_read, part_verdict, part_change, part_tick, part_power, rest_after, rest_change, rest_checks, rest_next, rest_power, does, nexts}
use Rattle.rules.proofs.{page.Through.mild, page.Faults.Kept, page.Facts.{never, start_ok, send_ok, finish_ok}, page.Invariant.{by_tick, part_when, Apart}}
use Rattle.std.specs.Prelude.{Ok, Err}

-- the transfer's part, phase by phase
abbrev pub PhaseOk : Phase → Transfer → Type 0
PhaseOk Idle t = (t.received ≡ 0) × (t.ticks ≡ 0) × (t.staged ≡ 0)
PhaseOk Receiving t = (1 ≤ current t) × (t.ticks ≡ 0) × (t.staged ≡ 0)
PhaseOk Verifying t = (1 ≤ current t) × (1 ≤ t.ticks) × (t.ticks ≤ verification) × (t.staged ≡ 0)
PhaseOk Staged t = (1 ≤ current t) × (t.ticks ≡ 0)
PhaseOk Failed t = (1 ≤ current t) × (t.ticks ≡ 0) × (t.staged ≡ 0)

-- its fault, phase by phase
abbrev pub FaultOk : Phase → Transfer → Type 0
FaultOk Idle t = (t.reason ≡ 0) × (t.faulty ≡ 0)
FaultOk Receiving t = (t.reason ≡ 0) × (t.faulty ≡ 0)
FaultOk Verifying t = (t.reason ≡ 0) × (t.faulty ≡ 0)
FaultOk Staged t = (t.reason ≡ 0) × (t.faulty ≡ 0)
FaultOk Failed t = Kept t.reason t.faulty

pub record PartOk (s : TransferPart) : Type 0 where
  pub within : s.transfer.received ≤ area_size
  pub fault : FaultOk s.transfer.phase s.transfer
  pub in_phase_law : PhaseOk s.transfer.phase s.transfer
  pub known : current s.transfer ≤ s.given
  pub size : length s.area ≡ area_size

-- the tests of a possible record's transfer part
abbrev pub current_test : Phase → (given : ℕ) → Transfer → Bool
current_test p given t = current t ≤? given && (1 ≤? current t unless p is Idle)

abbrev pub test : Phase → Transfer → Bool
test p t =
    (t.received ≤? area_size)
    && (p is Idle implies t.received =? 0)
    && (p is Verifying implies 1 ≤? t.ticks && t.ticks ≤? verification)
    && (t.ticks =? 0 unless p is Verifying)
    && (t.staged =? 0 unless p is Staged)

pub tests : (p : Phase) (given : ℕ) (t : Transfer) → current_test p given t ≡ true → test p t ≡ true → (t.received ≤ area_size) × (current t ≤ given) × PhaseOk p t
tests p given t c e =
    let k = and_true (current t ≤? given) (1 ≤? current t unless p is Idle) c in
    let h = and_5 (t.received ≤? area_size) (p is Idle implies t.received =? 0) (p is Verifying implies 1 ≤? t.ticks && t.ticks ≤? verification)
    (t.ticks =? 0 unless p is Verifying) (t.staged =? 0 unless p is Staged) e in
    (leb-true t.received area_size h.0, leb-true (current t) given k.0, at p k.1 h.1 h.2 h.3 h.4)
  where
    at : (q : Phase) → (1 ≤? current t unless q is Idle) ≡ true → (q is Idle implies t.received =? 0) ≡ true
        → (q is Verifying implies 1 ≤? t.ticks && t.ticks ≤? verification) ≡ true → (t.ticks =? 0 unless q is Verifying) ≡ true → (t.staged =? 0 unless q is Staged) ≡ true
        → PhaseOk q t
    at Idle a b c d f = (eqb-true t.received 0 b, eqb-true t.ticks 0 d, eqb-true t.staged 0 f)
    at Receiving a b c d f = (leb-true 1 (current t) a, eqb-true t.ticks 0 d, eqb-true t.staged 0 f)
    at Verifying a b c d f =
        let k = and_true (1 ≤? t.ticks) (t.ticks ≤? verification) c in
        (leb-true 1 (current t) a, leb-true 1 t.ticks k.0, leb-true t.ticks verification k.1, eqb-true t.staged 0 f)
    at Staged a b c d f = (leb-true 1 (current t) a, eqb-true t.ticks 0 d)
    at Failed a b c d f = (leb-true 1 (current t) a, eqb-true t.ticks 0 d, eqb-true t.staged 0 f)

pub current_tested : (p : Phase) (given : ℕ) (t : Transfer) → current t ≤ given → PhaseOk p t → current_test p given t ≡ true
current_tested Idle given t l h = rw (le-leb (current t) given l)
current_tested Receiving given t l h = rw (le-leb (current t) given l, le-leb 1 (current t) h.0)
current_tested Verifying given t l h = rw (le-leb (current t) given l, le-leb 1 (current t) h.0)
current_tested Staged given t l h = rw (le-leb (current t) given l, le-leb 1 (current t) h.0)
current_tested Failed given t l h = rw (le-leb (current t) given l, le-leb 1 (current t) h.0)

pub tested : (p : Phase) (t : Transfer) → t.received ≤ area_size → PhaseOk p t → test p t ≡ true
tested Idle t r h = rw (le-leb t.received area_size r, eq-eqb t.received 0 h.0, eq-eqb t.ticks 0 h.1, eq-eqb t.staged 0 h.2)
tested Receiving t r h = rw (le-leb t.received area_size r, eq-eqb t.ticks 0 h.1, eq-eqb t.staged 0 h.2)
tested Verifying t r h = rw (le-leb t.received area_size r, le-leb 1 t.ticks h.1, le-leb t.ticks verification h.2, eq-eqb t.staged 0 h.3)
tested Staged t r h = rw (le-leb t.received area_size r, eq-eqb t.ticks 0 h.1)
tested Failed t r h = rw (le-leb t.received area_size r, eq-eqb t.ticks 0 h.1, eq-eqb t.staged 0 h.2)

-- the tests of its fault
abbrev pub fault_test : Phase → Transfer → Bool
fault_test p t =
    (p is Failed implies (1 ≤? t.reason && t.reason ≤? 5 && t.faulty ≤? 127)) && ((t.reason =? 0 && t.faulty =? 0) unless p is Failed)

pub fault_tests : (p : Phase) (t : Transfer) → fault_test p t ≡ true → FaultOk p t
fault_tests p t e = at p (and_true (p is Failed implies (1 ≤? t.reason && t.reason ≤? 5 && t.faulty ≤? 127)) ((t.reason =? 0 && t.faulty =? 0) unless p is Failed) e)
  where
    zero : (t.reason =? 0 && t.faulty =? 0) ≡ true → (t.reason ≡ 0) × (t.faulty ≡ 0)
    zero z = let h = and_true (t.reason =? 0) (t.faulty =? 0) z in (eqb-true t.reason 0 h.0, eqb-true t.faulty 0 h.1)

    at : (q : Phase) → ((q is Failed implies (1 ≤? t.reason && t.reason ≤? 5 && t.faulty ≤? 127)) ≡ true) × (((t.reason =? 0 && t.faulty =? 0) unless q is Failed) ≡ true) → FaultOk q t
    at Idle h = zero h.1
    at Receiving h = zero h.1
    at Verifying h = zero h.1
    at Staged h = zero h.1
    at Failed h =
        let k = and_3 (1 ≤? t.reason) (t.reason ≤? 5) (t.faulty ≤? 127) h.0 in
        record { some_reason = leb-true 1 t.reason k.0; last_reason = leb-true t.reason 5 k.1; last_record = leb-true t.faulty 127 k.2 }

pub fault_tested : (p : Phase) (t : Transfer) → FaultOk p t → fault_test p t ≡ true
fault_tested Idle t h = rw (eq-eqb t.reason 0 h.0, eq-eqb t.faulty 0 h.1)
fault_tested Receiving t h = rw (eq-eqb t.reason 0 h.0, eq-eqb t.faulty 0 h.1)
fault_tested Verifying t h = rw (eq-eqb t.reason 0 h.0, eq-eqb t.faulty 0 h.1)
fault_tested Staged t h = rw (eq-eqb t.reason 0 h.0, eq-eqb t.faulty 0 h.1)
fault_tested Failed t h = rw (le-leb 1 t.reason h.some_reason, le-leb t.reason 5 h.last_reason, le-leb t.faulty 127 h.last_record)

-- Start comes from Idle or Failed
start_from : (p : Phase) (t : Transfer) → PhaseOk p t → (p is Receiving) ≡ false → (p is Verifying) ≡ false → (p is Staged) ≡ false → (t.ticks ≡ 0) × (t.staged ≡ 0)
start_from Idle t h a b c = (h.1, h.2)
start_from Receiving t h a b c = never a
start_from Verifying t h a b c = never b
start_from Staged t h a b c = never c
start_from Failed t h a b c = (h.1, h.2)

at_phase : (p : Phase) (t : Transfer) → t.phase ≡ p → PhaseOk t.phase t → PhaseOk p t
at_phase p t e h = subst (λ (q : Phase). PhaseOk q t) e h

fault_at_law : (p : Phase) (t : Transfer) → t.phase ≡ p → FaultOk t.phase t → FaultOk p t
fault_at_law p t e h = subst (λ (q : Phase). FaultOk q t) e h

part_change_law : (k : Bool) (s : TransferPart) (a b : Bool) (x : TransferCall) → part_verdict k s a b x ≡ Ok tt → PartOk s → PartOk (part_change s x)
part_change_law k s a b GetFwInfo v w = w
part_change_law k s a b Start v w =
    let o = start_ok k s a b v in
    let q = start_from s.transfer.phase s.transfer w.in_phase_law o.not_receiving o.not_verifying o.not_staged in
    record { within = omega arith; fault = (refl, refl); in_phase_law = (omega arith, q.0, q.1); known = omega arith; size = w.size }
part_change_law k s a b (Send context offset size piece) v w =
    let o = send_ok k s a b context offset size piece v in
    let q = at_phase Receiving s.transfer o.at w.in_phase_law in
    record {
      within = omega (arith, o.inside, o.here);
      fault =
          subst (λ (z : Phase). FaultOk z (part_change s (Send context offset size piece)).transfer) (sym o.at) (fault_at_law Receiving s.transfer o.at w.fault);
      in_phase_law = subst (λ (z : Phase). PhaseOk z (part_change s (Send context offset size piece)).transfer) (sym o.at) q;
      known = w.known;
      size = simp (length-append, length-take, length-drop) (omega (arith, w.size, o.inside, o.size_is));
    }
part_change_law k s a b (Finish flag reserved context) v w = go (flag =? 0)
  where
    q : PhaseOk Receiving s.transfer
    q = at_phase Receiving s.transfer (finish_ok k s a b flag reserved context v).at w.in_phase_law

    no_fault : FaultOk Receiving s.transfer
    no_fault = fault_at_law Receiving s.transfer (finish_ok k s a b flag reserved context v).at w.fault

    go : (c : Bool) → PartOk (s with_part (if c then s.transfer with_phase Verifying with_ticks verification else (s.transfer with_phase Idle with_received 0)))
    go true = record { within = w.within; fault = no_fault; in_phase_law = (q.0, omega arith, omega arith, q.2); known = w.known; size = w.size }
    go false = record { within = omega arith; fault = no_fault; in_phase_law = (refl, q.1, q.2); known = w.known; size = w.size }
part_change_law k s a b (Query context) v w = w

part_tick_law : (s : TransferPart) → PartOk s → PartOk (part_tick s)
part_tick_law s w =
    by_tick PartOk s w
    (λ p l. record {
      within = w.within;
      fault = subst (λ (z : Phase). FaultOk z (s.transfer with_ticks (s.transfer.ticks - 1))) (sym p) (no_fault p);
      in_phase_law = subst (λ (z : Phase). PhaseOk z (s.transfer with_ticks (s.transfer.ticks - 1))) (sym p) ((h p).0, omega (arith, l), omega (arith, (h p).2), (h p).3);
      known = w.known;
      size = w.size;
    })
    (λ version p. record { within = w.within; fault = no_fault p; in_phase_law = ((h p).0, refl); known = w.known; size = w.size })
    (λ reason faulty k p. record { within = w.within; fault = k; in_phase_law = ((h p).0, refl, (h p).3); known = w.known; size = w.size })
  where
    h : s.transfer.phase ≡ Verifying → PhaseOk Verifying s.transfer
    h p = at_phase Verifying s.transfer p w.in_phase_law

    no_fault : s.transfer.phase ≡ Verifying → FaultOk Verifying s.transfer
    no_fault p = fault_at_law Verifying s.transfer p w.fault

part_power_law : (s : TransferPart) → PartOk s → PartOk (part_power s)
part_power_law s w = record { within = omega arith; fault = (refl, refl); in_phase_law = (refl, refl, refl); known = w.known; size = w.size }

part_does : (s : Seen) (d : Doing) → PartOk (part_of s) → PartOk (part_of (does s d))
part_does s (Transfers host a b x n answer) w =
    part_when PartOk (part_verdict (taken s) (part_of s) a b x) (part_of s) x w (λ v. part_change_law (taken s) (part_of s) a b x v w)
part_does s (Others a b x n answer) w = w
part_does s Powers w = part_power_law (part_of s) w
part_does s (Reads new) w = w

-- numbers are only given out, and never more than there are
record Given (s u : TransferPart) : Type 0 where
  more : s.given ≤ u.given
  fit : s.given ≤ last_context → u.given ≤ last_context

same_given : (s : TransferPart) → Given s s
same_given s = record { more = omega arith; fit = λ l. l }

given_change : (k : Bool) (s : TransferPart) (a b : Bool) (x : TransferCall) → part_verdict k s a b x ≡ Ok tt → Given s (part_change s x)
given_change k s a b GetFwInfo v = same_given s
given_change k s a b Start v = let n = (start_ok k s a b v).left in record { more = omega arith; fit = λ l. omega (arith, l) }
given_change k s a b (Send context offset size piece) v = record { more = omega arith; fit = λ l. l }
given_change k s a b (Finish flag reserved context) v = record { more = omega arith; fit = λ l. l }
given_change k s a b (Query context) v = same_given s

given_does : (s : Seen) (d : Doing) → Given (part_of s) (part_of (does s d))
given_does s (Transfers host a b x n answer) =
    part_when (Given (part_of s)) (part_verdict (taken s) (part_of s) a b x) (part_of s) x (same_given (part_of s)) (λ v. given_change (taken s) (part_of s) a b x v)
given_does s (Others a b x n answer) = same_given (part_of s)
given_does s Powers = record { more = omega arith; fit = λ l. l }
given_does s (Reads new) = same_given (part_of s)

-- the rest
pub record RestOk (r : Rest) : Type 0 where
  pub locks : (r.security.locked implies r.security.enabled) ≡ true
  pub phrase : (zeros? r.security.passphrase unless r.security.enabled) ≡ true
  pub tries : r.security.attempts ≤ attempt_limit
  pub bits : r.thresholds.enable < 8
  pub spare : r.thresholds.spare ≤ 100
  pub left : r.reading.spare ≤ 100
  pub true_byte : r.trips ≡ trips r.thresholds r.reading

-- row by row: a row whose refusal is no wrong passphrase
peel : (t : Bool) (refusal : Refusal) (rows : List Check) (r : Rest) (x : RestCall) → mild (Err refusal) ≡ true → RestOk r → (t ≡ false → RestOk (rest_after (verdict rows) r x))
    → RestOk (rest_after (verdict ((t gives refusal) ∷ rows)) r x)
unfolding verdict
peel false refusal rows r x n w f = f refl
peel true (R number) rows r x n w f = w
peel true (Status status ext) rows r x n w f = rw (not-true (status =? 11) n) w

-- the row of the passphrase
pass : (t : Bool) (r : Rest) (x : RestCall) → r.security.attempts < attempt_limit → RestOk r → (t ≡ false → RestOk (rest_change r x))
    → RestOk (rest_after (verdict ((t gives Status 11 0) ∷ [])) r x)
unfolding verdict
pass false r x l w f = f refl
pass true r x l w f = record { locks = w.locks; phrase = w.phrase; tries = omega arith; bits = w.bits; spare = w.spare; left = w.left; true_byte = w.true_byte }

below_limit : (s : Security) → s.attempts ≤ attempt_limit → (s.frozen || s.attempts =? attempt_limit) ≡ false → s.attempts < attempt_limit
below_limit s l e = let n = eqb-false s.attempts attempt_limit (or_false s.frozen (s.attempts =? attempt_limit) e).1 in omega arith

-- the three rows of a call with a passphrase
passes : (t u : Bool) (r : Rest) (x : RestCall) → RestOk r → (t ≡ false → RestOk (rest_change r x))
    → RestOk (rest_after (verdict ((r.security.frozen || r.security.attempts =? attempt_limit gives Status 10 0) ∷ (t gives Status 10 0) ∷ (u gives Status 11 0) ∷ [])) r x)
passes t u r x w f =
    peel (r.security.frozen || r.security.attempts =? attempt_limit) (Status 10 0) ((t gives Status 10 0) ∷ (u gives Status 11 0) ∷ []) r x refl w (λ a.
    peel t (Status 10 0) ((u gives Status 11 0) ∷ []) r x refl w (λ b.
    pass u r x (below_limit r.security w.tries a) w (λ c. f b)))

accept : (r : Rest) (x : RestCall) → RestOk (rest_change r x) → RestOk (rest_after (verdict []) r x)
unfolding verdict
accept r x w = w

relock : (e : Bool) → (e implies e) ≡ true
relock true = refl
relock false = refl

lock_next : (r : Rest) (x : SecurityCall) → RestOk r → RestOk (rest_after (verdict (security_checks r.security x)) r (Locks x))
unfolding zeros?
lock_next r GetSecurityState w = accept r (Locks GetSecurityState) w
lock_next r (SetPassphrase given new) w =
    passes r.security.locked (r.security.enabled && wrong r.security given) r (Locks (SetPassphrase given new)) w
    (λ b. record { locks = rw b; phrase = refl; tries = omega arith; bits = w.bits; spare = w.spare; left = w.left; true_byte = w.true_byte })
lock_next r (Disable given) w =
    passes (not (r.security.enabled && not r.security.locked)) (wrong r.security given) r (Locks (Disable given)) w
    (λ b. record { locks = rw (and_true r.security.enabled (not r.security.locked) (not-false _ b)).1; phrase = refl; tries = omega arith; bits = w.bits; spare = w.spare; left = w.left; true_byte = w.true_byte })
lock_next r (Unlock given) w =
    passes (not (r.security.enabled && r.security.locked)) (wrong r.security given) r (Locks (Unlock given)) w
    (λ b. record { locks = refl; phrase = w.phrase; tries = omega arith; bits = w.bits; spare = w.spare; left = w.left; true_byte = w.true_byte })
lock_next r Freeze w =
    peel (r.security.frozen || r.security.attempts =? attempt_limit) (Status 10 0) [] r (Locks Freeze) refl w
    (λ a. accept r (Locks Freeze) (record { locks = w.locks; phrase = w.phrase; tries = w.tries; bits = w.bits; spare = w.spare; left = w.left; true_byte = w.true_byte }))

call_next : (r : Rest) (x : RestCall) → RestOk r → RestOk (rest_after (verdict (rest_checks r x)) r x)
call_next r (Masks revision) w = accept r (Masks revision) w
call_next r Healths w = accept r Healths w
call_next r (Limits GetThreshold) w = accept r (Limits GetThreshold) w
call_next r (Limits (SetThreshold enable spare media controller)) w =
    peel (7 <? enable) (Status 3 0) ((100 <? spare gives Status 3 0) ∷ []) r (Limits (SetThreshold enable spare media controller)) refl w (λ z.
    peel (100 <? spare) (Status 3 0) [] r (Limits (SetThreshold enable spare media controller)) refl w
    (λ a. accept r (Limits (SetThreshold enable spare media controller)) (record { locks = w.locks; phrase = w.phrase; tries = w.tries; bits = omega arith; spare = ltb-false 100 spare a; left = w.left; true_byte = refl })))
call_next r (Locks x) w = lock_next r x w
call_next r Nothing w = accept r Nothing w

rest_next_law : (r : Rest) (a b : Bool) (x : RestCall) → RestOk r → RestOk (rest_next r a b x)
unfolding rest_next
rest_next_law r a b x w =
    peel a (Status 1 0) ((b gives Status 3 0) ∷ rest_checks r x) r x refl w (λ p.
    peel b (Status 3 0) (rest_checks r x) r x refl w (λ q. call_next r x w))

-- a reading that is kept has a spare of at most 100
read_next : (r : Rest) (new : Reading) (over : Bool) → (100 <? new.spare) ≡ over → RestOk r → RestOk (rest_read (read_verdict new) r new)
unfolding verdict
read_next r new true e w = rw e w
read_next r new false e w = rw e (record { locks = w.locks; phrase = w.phrase; tries = w.tries; bits = w.bits; spare = w.spare; left = ltb-false 100 new.spare e; true_byte = refl })

rest_does : (s : Seen) (d : Doing) → RestOk (rest_of s) → RestOk (rest_of (does s d))
unfolding rest_power
rest_does s (Transfers host a b x n answer) w = w
rest_does s (Others a b x n answer) w = rest_next_law (rest_of s) a b x w
rest_does s Powers w =
    record { locks = relock s.own.security.enabled; phrase = w.phrase; tries = omega arith; bits = w.bits; spare = w.spare; left = w.left; true_byte = w.true_byte }
rest_does s (Reads new) w = read_next (rest_of s) new (100 <? new.spare) refl w

-- at most one has the area: after what a module does
one_change : (k : Bool) (s : TransferPart) (a b : Bool) (x : TransferCall) → part_verdict k s a b x ≡ Ok tt → (has_area s.transfer && k) ≡ false
    → (has_area (part_change s x).transfer && k) ≡ false
one_change k s a b GetFwInfo v o = o
one_change k s a b Start v o = (start_ok k s a b v).free
one_change k s a b (Send context offset size piece) v o = o
one_change k s a b (Finish flag reserved context) v o =
    if_both (λ (t : Transfer). (has_area t && k) ≡ false) (flag =? 0) (sym (ap (λ (p : Phase). (p is Receiving || p is Verifying) && k) (finish_ok k s a b flag reserved context v).at) ∙ o) refl
one_change k s a b (Query context) v o = o

one_does : (s : Seen) (d : Doing) → (has_area s.own.transfer && taken s) ≡ false → (has_area (does s d).own.transfer && taken (does s d)) ≡ false
one_does s (Transfers host a b x n answer) o =
    part_when (λ (u : TransferPart). (has_area u.transfer && taken s) ≡ false) (part_verdict (taken s) (part_of s) a b x) (part_of s) x o
    (λ v. one_change (taken s) (part_of s) a b x v o)
one_does s (Others a b x n answer) o = o
one_does s Powers o = refl
one_does s (Reads new) o = o

-- and after a tick, which gives the area to none
pub tick_area : (t : Transfer) (area : List ℕ) → has_area t ≡ false → has_area (tick_change t area) ≡ false
tick_area t area n =
    by_tick (λ (u : TransferPart). has_area u.transfer ≡ false) (record { transfer = t; given = 0; area = area }) n
    (λ p l. n) (λ version p. refl) (λ reason faulty k p. refl)

swap_and : (a b : Bool) → (a && b) ≡ false → (b && a) ≡ false
swap_and true b e = ap (λ (c : Bool). c && true) e
swap_and false true e = refl
swap_and false false e = refl

none_and : (b : Bool) → (b && false) ≡ false
none_and true = refl
none_and false = refl

one_tick : (t u : Transfer) (area : List ℕ) → (has_area t && has_area u) ≡ false → (has_area (tick_change t area) && has_area (tick_change u area)) ≡ false
one_tick t u area o = go (has_area t) refl o
  where
    go : (b : Bool) → has_area t ≡ b → (b && has_area u) ≡ false → (has_area (tick_change t area) && has_area (tick_change u area)) ≡ false
    go true e n = ap (λ (c : Bool). has_area (tick_change t area) && c) (tick_area u area n) ∙ none_and (has_area (tick_change t area))
    go false e n = ap (λ (c : Bool). c && has_area (tick_change u area)) (tick_area t area e)

-- the whole: both modules' parts
pub record SeenOk (s : Seen) : Type 0 where
  pub part : PartOk (part_of s)
  pub rests : RestOk (rest_of s)
  pub other_part : PartOk (part_of (turned s))
  pub other_rests : RestOk (rest_of (turned s))
  pub one : (has_area s.own.transfer && taken s) ≡ false

pub turn_ok : (s : Seen) → SeenOk s → SeenOk (turned s)
turn_ok s w =
    record {
      part = w.other_part;
      rests = w.other_rests;
      other_part = w.part;
      other_rests = w.rests;
      one = swap_and (has_area s.own.transfer) (taken s) w.one;
    }

-- the other module's part, after what a module does: the number and the area alone may be others
pub other_does : (s : Seen) (d : Doing) → (does s d).other ≡ s.other
other_does s (Transfers host a b x n answer) = refl
other_does s (Others a b x n answer) = refl
other_does s Powers = refl
other_does s (Reads new) = refl

beside : (s u : TransferPart) (area : List ℕ) → s.given ≤ u.given → length area ≡ area_size → PartOk s → PartOk (record { transfer = s.transfer; given = u.given; area = area })
beside s u area l size w = record { within = w.within; fault = w.fault; in_phase_law = w.in_phase_law; known = omega (arith, w.known, l); size = size }

ok_does : (s : Seen) (d : Doing) → SeenOk s → SeenOk (does s d)
ok_does s d w =
    let p = part_does s d w.part in
    let o = other_does s d in
    record {
      part = p;
      rests = rest_does s d w.rests;
      other_part =
          subst (λ (z : Device). PartOk (record { transfer = z.transfer; given = (does s d).given; area = (does s d).area })) (sym o)
          (beside (part_of (turned s)) (part_of (does s d)) (does s d).area (given_does s d).more p.size w.other_part);
      other_rests =
          subst (λ (z : Device). RestOk (record { thresholds = z.thresholds; security = z.security; reading = z.reading; trips = z.trips })) (sym o) w.other_rests;
      one = one_does s d w.one;
    }

pub ok_next : (s : Seen) (f : Act) → SeenOk s → SeenOk (nexts s f)
ok_next s (Mine d) w = ok_does s d w
ok_next s (Theirs d) w = turn_ok (does (turned s) d) (ok_does (turned s) d (turn_ok s w))
ok_next s Ticks w =
    record {
      part = part_tick_law (part_of s) w.part;
      rests = w.rests;
      other_part = part_tick_law (part_of (turned s)) w.other_part;
      other_rests = w.other_rests;
      one = one_tick s.own.transfer s.other.transfer s.area w.one;
    }

pub fit_next : (s : Seen) (f : Act) → s.given ≤ last_context → (nexts s f).given ≤ last_context
fit_next s (Mine d) l = (given_does s d).fit l
fit_next s (Theirs d) l = (given_does (turned s) d).fit l
fit_next s Ticks l = l

pub more_next : (s : Seen) (f : Act) → s.given ≤ (nexts s f).given
more_next s (Mine d) = (given_does s d).more
more_next s (Theirs d) = (given_does (turned s) d).more
more_next s Ticks = omega arith

-- what the other module does leaves a module apart
quiet_change : (k : Bool) (s : TransferPart) (a b : Bool) (x : TransferCall) → part_verdict k s a b x ≡ Ok tt → (has_area s.transfer && k) ≡ false → k ≡ true
    → ((part_change s x).given ≡ s.given) × ((part_change s x).area ≡ s.area)
quiet_change k s a b GetFwInfo v o e = (refl, refl)
quiet_change k s a b Start v o e = never (sym e ∙ (start_ok k s a b v).free)
quiet_change k s a b (Send context offset size piece) v o e =
    never (sym (ap (λ (p : Phase). (p is Receiving || p is Verifying) && k) (send_ok k s a b context offset size piece v).at ∙ e) ∙ o)
quiet_change k s a b (Finish flag reserved context) v o e = (refl, refl)
quiet_change k s a b (Query context) v o e = (refl, refl)

quiet_does : (s : Seen) (d : Doing) → (has_area s.own.transfer && taken s) ≡ false → taken s ≡ true → ((does s d).given ≡ s.given) × ((does s d).area ≡ s.area)
quiet_does s (Transfers host a b x n answer) o e =
    part_when (λ (u : TransferPart). (u.given ≡ s.given) × (u.area ≡ s.area)) (part_verdict (taken s) (part_of s) a b x) (part_of s) x (refl, refl)
    (λ v. quiet_change (taken s) (part_of s) a b x v o e)
quiet_does s (Others a b x n answer) o e = (refl, refl)
quiet_does s Powers o e = (refl, refl)
quiet_does s (Reads new) o e = (refl, refl)

pub apart : (s : Seen) → SeenOk s → (d : Doing) → Apart (part_of s) (part_of (nexts s (Theirs d)))
apart s w d =
    record {
      same = ap (λ (z : Device). z.transfer) (other_does (turned s) d);
      more = (given_does (turned s) d).more;
      quiet = λ e. quiet_does (turned s) d (turn_ok s w).one e;
    }

-- a module's record is possible where its parts are as they should be, and the other way
pub ok_possible : (s : Seen) → PartOk (part_of s) → RestOk (rest_of s) → possible s.given s.own ≡ true
unfolding possible possible_parts possible_transfer possible_security possible_thresholds possible_reading possible_trips
ok_possible s p r =
    rw (
      current_tested s.own.transfer.phase s.given s.own.transfer p.known p.in_phase_law,
      tested s.own.transfer.phase s.own.transfer p.within p.in_phase_law,
      fault_tested s.own.transfer.phase s.own.transfer p.fault,
      r.locks,
      r.phrase,
      le-leb s.own.security.attempts attempt_limit r.tries,
      lt-ltb s.own.thresholds.enable 8 r.bits,
      le-leb s.own.thresholds.spare 100 r.spare,
      le-leb s.own.reading.spare 100 r.left,
      eq-eqb s.own.trips (trips s.own.thresholds s.own.reading) r.true_byte,
    )

pub possible_ok : (s : Seen) → possible s.given s.own ≡ true → length s.area ≡ area_size → PartOk (part_of s) × RestOk (rest_of s)
unfolding possible possible_parts possible_transfer possible_security possible_thresholds possible_reading possible_trips
possible_ok s e l =
    let d = s.own in
    let parts = and_true (possible_parts s.given d) (possible_trips d) e in
    let four = and_4 (possible_transfer s.given d.transfer) (possible_security d.security) (possible_thresholds d.thresholds) (possible_reading d.reading) parts.0 in
    let three = and_3 (possible_current s.given d.transfer) (possible_numbers d.transfer) (possible_fault d.transfer) four.0 in
    let t = tests d.transfer.phase s.given d.transfer three.0 three.1 in
    let q = and_true ((d.security.locked implies d.security.enabled) && (zeros? d.security.passphrase unless d.security.enabled)) (d.security.attempts ≤? attempt_limit) four.1 in
    let p = and_true (d.security.locked implies d.security.enabled) (zeros? d.security.passphrase unless d.security.enabled) q.0 in
    let h = and_true (d.thresholds.enable <? 8) (d.thresholds.spare ≤? 100) four.2 in (
      record { within = t.0; fault = fault_tests d.transfer.phase d.transfer three.2; in_phase_law = t.2; known = t.1; size = l },
      record {
        locks = p.0;
        phrase = p.1;
        tries = leb-true d.security.attempts attempt_limit q.1;
        bits = ltb-true d.thresholds.enable 8 h.0;
        spare = leb-true d.thresholds.spare 100 h.1;
        left = leb-true d.reading.spare 100 four.3;
        true_byte = eqb-true d.trips (trips d.thresholds d.reading) parts.1;
      },
    )
