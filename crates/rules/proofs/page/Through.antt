-- Where R1, R2, R5 and R3 are not given, the cabinet is its modules, each in its two parts.
-- Assumes nothing.
use Prim.Native.Nat.{ℕ, ◌≤◌}
use mathlib.Core.{Path.{◌≡◌, refl, sym, ap, ◌∙◌}, Bool.{Bool, true, false, not, ◌||◌, false≢true}, List.{List, ◌++◌}}
use native.Mathlib.Omega.{arith}
use lib.ListN.{length}
use borrow.Author.Tests.{not-true, eqb-true, eqb-false, eq-eqb, ne_eqb, ltb-false}
use Rattle.std.specs.Prelude.{if◌then◌else◌}
use Rattle.rules.specs.{Tests.{◌=?◌, ◌<?◌}, Numbers.{area_size, answer_room}, Record.{possible_cabinet, Whole, whole_of, Module, module_of, standing}}
use Rattle.rules.specs.{Refusals.{verdict, tick_checks, event_checks, one_attempt_more}, Table.row_of, Thresholds.{GetThreshold, SetThreshold}}
use Rattle.rules.specs.Security.{GetSecurityState, SetPassphrase, Disable, Unlock, Freeze}
use Rattle.rules.specs.Transfer.{TransferCall, GetFwInfo, Start, Send, Finish, Query, transfer_checks}
use Rattle.rules.specs.Module.{Call, OnMask, OnHealth, OnThresholds, OnTransfer, OnSecurity, OnNothing, call_in, checks, accepted_answer, change, device_powered, device_keeping}
use Rattle.rules.specs.Cabinet.{Event, call, tick, power, reading, outcome, call_checks, call_result, tick_result, power_result, reading_result, reading_checks, ticked, powered, kept, happened, step}
use Rattle.rules.specs.{Transfers.{Answer, machine, Exchange, call_kind, kind_of, event_kind}, Demand3.remains, Demand1.{buffer_too_short, module_over1, spare_over100}, declared.Reading.Reading}
use Rattle.rules.specs.{declared.Refusal.TheVariants.{R, Status}}
use Rattle.rules.specs.declared.Transfer.{Transfer}
use Rattle.rules.proofs.{page.Passed.by_rows, page.Choice.or_false}
use Rattle.rules.proofs.page.Split.{Seen, seen_from, number, turned, taken, part_of, rest_of, ◌with_its_part◌, ◌with_its_rest◌, RestCall, Masks, Healths, Limits, Locks, Nothing, to_call, Doing, Powers, Reads, doing_of, mine?, toward, call_doing, act, unserved?, misfit?, front, answer_by, part_after, rest_after, rest_missed, rest_checks, rest_answer, rest_next, rest_power, read_verdict, rest_read, read_answer, told, does, answers, nexts, inner, doing_kind, act_kind}
use Rattle.rules.specs.Refusals.{Verdict}
use Rattle.std.specs.Prelude.{Ok, Err}

-- no wrong passphrase
abbrev pub mild : Verdict → Bool
mild (Ok tt) = true
mild (Err (R number)) = true
mild (Err (Status status ext)) = not (status =? 11)

-- no transfer call is refused as a wrong passphrase
pub transfer_mild : (t : Transfer) (given : ℕ) (k a b : Bool) (x : TransferCall) → mild (verdict (front a b ++ transfer_checks t given k x)) ≡ true
transfer_mild t given k a b GetFwInfo = by_rows mild (front a b) refl
transfer_mild t given k a b Start = by_rows mild (front a b ++ transfer_checks t given k Start) refl
transfer_mild t given k a b (Send context offset size piece) = by_rows mild (front a b ++ transfer_checks t given k (Send context offset size piece)) refl
transfer_mild t given k a b (Finish flag reserved context) = by_rows mild (front a b ++ transfer_checks t given k (Finish flag reserved context)) refl
transfer_mild t given k a b (Query context) = by_rows mild (front a b ++ transfer_checks t given k (Query context)) refl

-- no R number
abbrev pub no_R : Verdict → Bool
no_R (Ok tt) = true
no_R (Err (R number)) = false
no_R (Err (Status status ext)) = true

-- past the gate no row of a call gives an R number
no_R_law : (m : Module) (a b : Bool) (c : Call) → no_R (verdict (front a b ++ checks m c)) ≡ true
no_R_law m a b (OnMask revision) = by_rows no_R (front a b) refl
no_R_law m a b OnHealth = by_rows no_R (front a b) refl
no_R_law m a b (OnThresholds GetThreshold) = by_rows no_R (front a b) refl
no_R_law m a b (OnThresholds (SetThreshold enable spare media controller)) = by_rows no_R (front a b ++ checks m (OnThresholds (SetThreshold enable spare media controller))) refl
no_R_law m a b (OnTransfer GetFwInfo) = by_rows no_R (front a b) refl
no_R_law m a b (OnTransfer Start) = by_rows no_R (front a b ++ checks m (OnTransfer Start)) refl
no_R_law m a b (OnTransfer (Send context offset size piece)) = by_rows no_R (front a b ++ checks m (OnTransfer (Send context offset size piece))) refl
no_R_law m a b (OnTransfer (Finish flag reserved context)) = by_rows no_R (front a b ++ checks m (OnTransfer (Finish flag reserved context))) refl
no_R_law m a b (OnTransfer (Query context)) = by_rows no_R (front a b ++ checks m (OnTransfer (Query context))) refl
no_R_law m a b (OnSecurity GetSecurityState) = by_rows no_R (front a b) refl
no_R_law m a b (OnSecurity (SetPassphrase given new)) = by_rows no_R (front a b ++ checks m (OnSecurity (SetPassphrase given new))) refl
no_R_law m a b (OnSecurity (Disable given)) = by_rows no_R (front a b ++ checks m (OnSecurity (Disable given))) refl
no_R_law m a b (OnSecurity (Unlock given)) = by_rows no_R (front a b ++ checks m (OnSecurity (Unlock given))) refl
no_R_law m a b (OnSecurity Freeze) = by_rows no_R (front a b ++ checks m (OnSecurity Freeze)) refl
no_R_law m a b OnNothing = by_rows no_R (front a b) refl

-- a call that remains and gave no wrong passphrase was accepted
pub accepted_mild : (v : Verdict) → mild v ≡ true → remains v ≡ true → v ≡ Ok tt
accepted_mild (Ok tt) e r = refl
accepted_mild (Err (R number)) e r = absurd (false≢true r)
accepted_mild (Err (Status status ext)) e r = absurd (false≢true (sym (not-true (status =? 11) e) ∙ r))

-- a module of the cabinet, as its calls find it
abbrev pub view_of : Seen → Module
view_of s = module_of s.own s.area s.given (taken s)

-- the cabinet with the module back in its place
abbrev back_to : Seen → Module → Seen
back_to s m = record { own = m.device; other = s.other; given = m.given; area = m.area }

abbrev missed_once : Seen → Seen
missed_once s = record { own = one_attempt_more s.own; other = s.other; given = s.given; area = s.area }

-- what a verdict on a call leaves, seen from its module
abbrev own_after : Verdict → Seen → Call → Seen
own_after (Ok tt) s c = back_to s (change (view_of s) c)
own_after (Err (R number)) s c = s
own_after (Err (Status status ext)) s c = if status =? 11 then missed_once s else s

-- a record in its place: the module's own, where the test says that it is module 0
placed : (z : Bool) (w : Whole) (m : Module)
    → seen_from z (record {
      cabinet = record { contexts = m.given; first = if z then m.device else w.cabinet.first; second = if z then w.cabinet.second else m.device };
      area = m.area;
    })
    ≡ back_to (seen_from z w) m
placed true w m = refl
placed false w m = refl

left : (z missed : Bool) (w : Whole)
    → seen_from z (whole_of (if missed then record {
      contexts = w.cabinet.contexts;
      first = if z then one_attempt_more (if z then w.cabinet.first else w.cabinet.second) else w.cabinet.first;
      second = if z then w.cabinet.second else one_attempt_more (if z then w.cabinet.first else w.cabinet.second);
    } else w.cabinet) w.area)
    ≡ (if missed then missed_once (seen_from z w) else seen_from z w)
left true true w = refl
left true false w = refl
left false true w = refl
left false false w = refl

seen_after : (v : Verdict) (w : Whole) (named : ℕ) (c : Call) (n : ℕ) (answer : List ℕ)
    → seen_from (named =? 0) (outcome v w named c n answer).after ≡ own_after v (seen_from (named =? 0) w) c
seen_after (Ok tt) w named c n answer = placed (named =? 0) w (change (view_of (seen_from (named =? 0) w)) c)
seen_after (Err (R number)) w named c n answer = refl
seen_after (Err (Status status ext)) w named c n answer = left (named =? 0) (status =? 11) w

-- what a call does to its module's two parts
after_part_law : (v : Verdict) (s : Seen) (x : TransferCall) → mild v ≡ true → own_after v s (OnTransfer x) ≡ s with_its_part part_after v (part_of s) x
after_part_law (Ok tt) s x e = refl
after_part_law (Err (R number)) s x e = refl
after_part_law (Err (Status status ext)) s x e = rw (not-true (status =? 11) e)

missed : (b : Bool) (s : Seen) → (if b then missed_once s else s) ≡ s with_its_rest (if b then rest_missed (rest_of s) else rest_of s)
missed true s = refl
missed false s = refl

after_rest : (v : Verdict) (s : Seen) (x : RestCall) → own_after v s (to_call x) ≡ s with_its_rest rest_after v (rest_of s) x
after_rest (Ok tt) s (Masks revision) = refl
after_rest (Ok tt) s Healths = refl
after_rest (Ok tt) s (Limits x) = refl
after_rest (Ok tt) s (Locks x) = refl
after_rest (Ok tt) s Nothing = refl
after_rest (Err (R number)) s x = refl
after_rest (Err (Status status ext)) s x = missed (status =? 11) s

call_told : (s : Seen) (host : ℕ) (a b : Bool) (c : Call) (n : ℕ) (answer : List ℕ)
    → answer_by (verdict (front a b ++ checks (view_of s) c)) n (accepted_answer (view_of s) c) answer ≡ told s (doing_of host a b c n answer)
unfolding rest_answer
call_told s host a b (OnMask revision) n answer = refl
call_told s host a b OnHealth n answer = refl
call_told s host a b (OnThresholds x) n answer = refl
call_told s host a b (OnTransfer x) n answer = refl
call_told s host a b (OnSecurity x) n answer = refl
call_told s host a b OnNothing n answer = refl

call_does : (s : Seen) (host : ℕ) (a b : Bool) (c : Call) (n : ℕ) (answer : List ℕ)
    → own_after (verdict (front a b ++ checks (view_of s) c)) s c ≡ does s (doing_of host a b c n answer)
unfolding rest_next
call_does s host a b (OnMask revision) n answer = after_rest (verdict (front a b)) s (Masks revision)
call_does s host a b OnHealth n answer = after_rest (verdict (front a b)) s Healths
call_does s host a b (OnThresholds x) n answer = after_rest (verdict (front a b ++ rest_checks (rest_of s) (Limits x))) s (Limits x)
call_does s host a b (OnTransfer x) n answer =
    after_part_law (verdict (front a b ++ transfer_checks s.own.transfer s.given (taken s) x)) s x (transfer_mild s.own.transfer s.given (taken s) a b x)
call_does s host a b (OnSecurity x) n answer = after_rest (verdict (front a b ++ rest_checks (rest_of s) (Locks x))) s (Locks x)
call_does s host a b OnNothing n answer = after_rest (verdict (front a b)) s Nothing

-- from its own module or from the other, it is the same event
pub answers_place : (first z : Bool) (w : Whole) (d : Doing) → answers (seen_from first w) (toward (if first then z else not z) d) ≡ told (seen_from z w) d
answers_place true true w d = refl
answers_place true false w d = refl
answers_place false true w d = refl
answers_place false false w d = refl

pub nexts_place : (first z : Bool) (w after : Whole) (d : Doing) → seen_from z after ≡ does (seen_from z w) d
    → seen_from first after ≡ nexts (seen_from first w) (toward (if first then z else not z) d)
nexts_place true true w after d e = e
nexts_place true false w after d e = ap turned e
nexts_place false true w after d e = ap turned e
nexts_place false false w after d e = e

kind_place : (first z : Bool) (d : Doing) (got : Answer) → act_kind first (toward (if first then z else not z) d) got ≡ doing_kind (number z) d got
kind_place true true d got = refl
kind_place true false d got = refl
kind_place false true d got = refl
kind_place false false d got = refl

pub record Through (first : Bool) (w : Whole) (event : Event) : Type 0 where
  pub answers_as : machine.answer w event ≡ (inner first).answer (seen_from first w) event
  pub nexts_as : seen_from first (machine.next w event) ≡ (inner first).next (seen_from first w) event

-- the event is not stopped before the record is looked at: its answer buffer is long enough, and it names a module that there is
abbrev pub stopped : Event → Bool
stopped event = buffer_too_short event || module_over1 event

gate_call : (w : Whole) (named revision index : ℕ) (request answer : List ℕ) → (length answer <? answer_room) ≡ false → (1 <? named) ≡ false
    → (length w.area =? area_size) ≡ true → possible_cabinet w.cabinet ≡ true
    → verdict (call_checks w named revision index request answer)
    ≡ verdict (front (unserved? revision index) (misfit? index request) ++ checks (standing named w) (call_in revision index request))
unfolding verdict
gate_call w named revision index request answer room there size poss = rw (room, there, size, poss)

gate_tick : (w : Whole) → (length w.area =? area_size) ≡ true → possible_cabinet w.cabinet ≡ true → verdict (tick_checks w) ≡ Ok tt
unfolding verdict
gate_tick w size poss = rw (size, poss)

gate_event : (w : Whole) (named : ℕ) → (1 <? named) ≡ false → (length w.area =? area_size) ≡ true → possible_cabinet w.cabinet ≡ true
    → verdict (event_checks w named) ≡ Ok tt
unfolding verdict
gate_event w named there size poss = rw (there, size, poss)

gate_reading : (w : Whole) (named : ℕ) (new : Reading) → (1 <? named) ≡ false → (length w.area =? area_size) ≡ true → possible_cabinet w.cabinet ≡ true
    → verdict (reading_checks w named new) ≡ read_verdict new
unfolding verdict
gate_reading w named new there size poss = rw (there, size, poss)

outcome_answer : (v : Verdict) (w : Whole) (named : ℕ) (c : Call) (n : ℕ) (answer : List ℕ)
    → ◌≡◌ {A = Answer} (record { reply = (outcome v w named c n answer).reply; buffer = (outcome v w named c n answer).answer }) (answer_by v n (accepted_answer (standing named w) c) answer)
outcome_answer (Ok tt) w named c n answer = refl
outcome_answer (Err (R number)) w named c n answer = refl
outcome_answer (Err (Status status ext)) w named c n answer = refl

happened_answer : (v : Verdict) (changed was : Whole)
    → ◌≡◌ {A = Answer} (record { reply = (happened v changed was).reply; buffer = (happened v changed was).answer }) (read_answer v)
happened_answer (Ok tt) changed was = refl
happened_answer (Err refusal) changed was = refl

powered_place : (z : Bool) (w : Whole)
    → seen_from z (whole_of (record {
      contexts = w.cabinet.contexts;
      first = if z then device_powered (if z then w.cabinet.first else w.cabinet.second) else w.cabinet.first;
      second = if z then w.cabinet.second else device_powered (if z then w.cabinet.first else w.cabinet.second);
    }) w.area)
    ≡ does (seen_from z w) Powers
unfolding rest_power
powered_place true w = refl
powered_place false w = refl

kept_place : (z : Bool) (v : Verdict) (w : Whole) (new : Reading)
    → seen_from z (happened v (whole_of (record {
      contexts = w.cabinet.contexts;
      first = if z then device_keeping new (if z then w.cabinet.first else w.cabinet.second) else w.cabinet.first;
      second = if z then w.cabinet.second else device_keeping new (if z then w.cabinet.first else w.cabinet.second);
    }) w.area) w).after
    ≡ seen_from z w with_its_rest rest_read v (rest_of (seen_from z w)) new
kept_place true (Ok tt) w new = refl
kept_place true (Err refusal) w new = refl
kept_place false (Ok tt) w new = refl
kept_place false (Err refusal) w new = refl

ticked_place : (first : Bool) (w : Whole) → seen_from first (ticked w) ≡ (inner first).next (seen_from first w) tick
ticked_place true w = refl
ticked_place false w = refl

pub through : (first : Bool) (w : Whole) (event : Event) → stopped event ≡ false → (length w.area =? area_size) ≡ true → possible_cabinet w.cabinet ≡ true
    → Through first w event
unfolding call_result tick_result power_result reading_result
through first w (call host named revision index request answer) unstopped size poss =
    record {
      answers_as =
          ap (λ (v : Verdict). record { reply = (outcome v w named c n answer).reply; buffer = (outcome v w named c n answer).answer }) gate
          ∙ outcome_answer u w named c n answer
          ∙ call_told s host a b c n answer
          ∙ sym (answers_place first (named =? 0) w d);
      nexts_as =
          nexts_place first (named =? 0) w (outcome (verdict (call_checks w named revision index request answer)) w named c n answer).after d
          (ap (λ (v : Verdict). seen_from (named =? 0) (outcome v w named c n answer).after) gate
          ∙ seen_after u w named c n answer
          ∙ call_does s host a b c n answer);
    }
  where
    c : Call
    c = call_in revision index request

    n : ℕ
    n = (row_of index).answer

    a : Bool
    a = unserved? revision index

    b : Bool
    b = misfit? index request

    s : Seen
    s = seen_from (named =? 0) w

    d : Doing
    d = doing_of host a b c n answer

    u : Verdict
    u = verdict (front a b ++ checks (standing named w) c)

    gate : verdict (call_checks w named revision index request answer) ≡ u
    gate = let q = or_false (length answer <? answer_room) (1 <? named) unstopped in gate_call w named revision index request answer q.0 q.1 size poss
through first w tick unstopped size poss =
    let gate : verdict (tick_checks w) ≡ (Ok tt) = gate_tick w size poss in
    record { answers_as = rw gate; nexts_as = ap (λ (v : Verdict). seen_from first (happened v (ticked w) w).after) gate ∙ ticked_place first w }
through first w (power named) unstopped size poss =
    let gate : verdict (event_checks w named) ≡ (Ok tt) = gate_event w named unstopped size poss in
    record {
      answers_as = rw gate (sym (answers_place first (named =? 0) w Powers));
      nexts_as =
          nexts_place first (named =? 0) w (happened (verdict (event_checks w named)) (powered w named) w).after Powers
          (ap (λ (v : Verdict). seen_from (named =? 0) (happened v (powered w named) w).after) gate ∙ powered_place (named =? 0) w);
    }
through first w (reading named new) unstopped size poss =
    let gate = gate_reading w named new unstopped size poss in
    record {
      answers_as =
          happened_answer (verdict (reading_checks w named new)) (kept w named new) w ∙ ap read_answer gate ∙ sym (answers_place first (named =? 0) w (Reads new));
      nexts_as =
          nexts_place first (named =? 0) w (happened (verdict (reading_checks w named new)) (kept w named new) w).after (Reads new)
          (kept_place (named =? 0) (verdict (reading_checks w named new)) w new
          ∙ ap (λ (v : Verdict). seen_from (named =? 0) w with_its_rest rest_read v (rest_of (seen_from (named =? 0) w)) new) gate);
    }

outcome_no_R : (v : Verdict) (w : Whole) (named : ℕ) (c : Call) (n : ℕ) (answer : List ℕ) → no_R v ≡ true → no_R (outcome v w named c n answer).reply.verdict ≡ true
outcome_no_R (Ok tt) w named c n answer e = refl
outcome_no_R (Err (R number)) w named c n answer e = e
outcome_no_R (Err (Status status ext)) w named c n answer e = refl

-- what a reading is answered, by its spare
pub reading_verdict : (w : Whole) (named : ℕ) (new : Reading) (over : Bool) → (100 <? new.spare) ≡ over → (1 <? named) ≡ false → (length w.area =? area_size) ≡ true
    → possible_cabinet w.cabinet ≡ true → (step w (reading named new)).reply.verdict ≡ (if over then Err (R 4) else (Ok tt))
unfolding reading_result verdict
reading_verdict w named new true e there size poss = rw (there, size, poss, e)
reading_verdict w named new false e there size poss = rw (there, size, poss, e)

-- past the gate no R number is given, but to a reading whose spare is over 100
pub gate_no_R : (w : Whole) (event : Event) → stopped event ≡ false → spare_over100 event ≡ false → (length w.area =? area_size) ≡ true → possible_cabinet w.cabinet ≡ true
    → no_R (step w event).reply.verdict ≡ true
unfolding call_result tick_result power_result
gate_no_R w (call host named revision index request answer) unstopped low size poss =
    let c : Call = call_in revision index request in
    let q = or_false (length answer <? answer_room) (1 <? named) unstopped in
    outcome_no_R (verdict (call_checks w named revision index request answer)) w named c (row_of index).answer answer
    (ap no_R (gate_call w named revision index request answer q.0 q.1 size poss) ∙ no_R_law (standing named w) (unserved? revision index) (misfit? index request) c)
gate_no_R w tick unstopped low size poss = rw (gate_tick w size poss)
gate_no_R w (power named) unstopped low size poss = rw (gate_event w named unstopped size poss)
gate_no_R w (reading named new) unstopped low size poss = ap no_R (reading_verdict w named new false low unstopped size poss)

-- a short answer buffer gives R1, and then a module over 1 gives R5, from an area of the right size; each leaves all
pub record Shut (w : Whole) (event : Event) (number : ℕ) : Type 0 where
  pub is_R : (step w event).reply.verdict ≡ Err (R number)
  pub same : machine.next w event ≡ w

shut_call : (w : Whole) (named revision index : ℕ) (request answer : List ℕ) → (length answer <? answer_room) ≡ true
    → verdict (call_checks w named revision index request answer) ≡ Err (R 1)
unfolding verdict
shut_call w named revision index request answer e = rw e

over_call : (w : Whole) (named revision index : ℕ) (request answer : List ℕ) → (length answer <? answer_room) ≡ false → (1 <? named) ≡ true → (length w.area =? area_size) ≡ true
    → verdict (call_checks w named revision index request answer) ≡ Err (R 5)
unfolding verdict
over_call w named revision index request answer room e size = rw (room, size, e)

over_event : (w : Whole) (named : ℕ) → (1 <? named) ≡ true → (length w.area =? area_size) ≡ true → verdict (event_checks w named) ≡ Err (R 5)
unfolding verdict
over_event w named e size = rw (size, e)

over_reading : (w : Whole) (named : ℕ) (new : Reading) → (1 <? named) ≡ true → (length w.area =? area_size) ≡ true → verdict (reading_checks w named new) ≡ Err (R 5)
unfolding verdict
over_reading w named new e size = rw (size, e)

by_verdict : (w : Whole) (named revision index : ℕ) (request answer : List ℕ) (number : ℕ) → verdict (call_checks w named revision index request answer) ≡ Err (R number)
    → (host : ℕ) → Shut w (call host named revision index request answer) number
unfolding call_result
by_verdict w named revision index request answer number gate host =
    let c : Call = call_in revision index request in
    let n : ℕ = (row_of index).answer in
    record {
      is_R = ap (λ (v : Verdict). (outcome v w named c n answer).reply.verdict) gate;
      same = ap (λ (v : Verdict). (outcome v w named c n answer).after) gate;
    }

pub shut : (w : Whole) (event : Event) → buffer_too_short event ≡ true → Shut w event 1
shut w (call host named revision index request answer) e =
    by_verdict w named revision index request answer 1 (shut_call w named revision index request answer e) host
shut w tick e = absurd (false≢true e)
shut w (power named) e = absurd (false≢true e)
shut w (reading named new) e = absurd (false≢true e)

pub over : (w : Whole) (event : Event) → buffer_too_short event ≡ false → module_over1 event ≡ true → (length w.area =? area_size) ≡ true → Shut w event 5
unfolding power_result reading_result
over w (call host named revision index request answer) room e size =
    by_verdict w named revision index request answer 5 (over_call w named revision index request answer room e size) host
over w tick room e size = absurd (false≢true e)
over w (power named) room e size =
    let gate = over_event w named e size in
    record {
      is_R = ap (λ (v : Verdict). (happened v (powered w named) w).reply.verdict) gate;
      same = ap (λ (v : Verdict). (happened v (powered w named) w).after) gate;
    }
over w (reading named new) room e size =
    let gate = over_reading w named new e size in
    record {
      is_R = ap (λ (v : Verdict). (happened v (kept w named new) w).reply.verdict) gate;
      same = ap (λ (v : Verdict). (happened v (kept w named new) w).after) gate;
    }

-- a module that there is goes by its number
pub side_named : (named : ℕ) → (1 <? named) ≡ false → number (named =? 0) ≡ named
side_named named e = go (named =? 0) refl
  where
    go : (z : Bool) → (named =? 0) ≡ z → number (named =? 0) ≡ named
    go true f = ap number f ∙ sym (eqb-true named 0 f)
    go false f = let n = eqb-false named 0 f in let l = ltb-false 1 named e in let one : 1 ≡ named = omega arith in ap number f ∙ one

-- whose an event is: seen from a module, that of its own number
pub mine_named : (own named : ℕ) → own ≤ 1 → (1 <? named) ≡ false → mine? (own =? 0) named ≡ (named =? own)
mine_named own named l e = go (own =? 0) refl (named =? 0) refl
  where
    there : named ≤ 1
    there = ltb-false 1 named e

    go : (o : Bool) → (own =? 0) ≡ o → (z : Bool) → (named =? 0) ≡ z → mine? (own =? 0) named ≡ (named =? own)
    go true f z g = rw (eqb-true own 0 f)
    go false f true g =
        let n = eqb-false own 0 f in
        let zero : named ≡ 0 = eqb-true named 0 g in
        let no : named ≡ own → ⊥ = λ h. omega arith in rw (f, g) (sym (ne_eqb named own no))
    go false f false g =
        let n = eqb-false own 0 f in
        let k = eqb-false named 0 g in
        let same : named ≡ own = omega (arith, there) in rw (f, g) (sym (eq-eqb named own same))

-- what an exchange is to the transfers, by its act
pub kind_call : (named host : ℕ) (a b : Bool) (c : Call) (n : ℕ) (answer : List ℕ) (got : Answer) → call_kind named host c got ≡ doing_kind named (doing_of host a b c n answer) got
kind_call named host a b (OnMask revision) n answer got = refl
kind_call named host a b OnHealth n answer got = refl
kind_call named host a b (OnThresholds x) n answer got = refl
kind_call named host a b (OnTransfer x) n answer got = refl
kind_call named host a b (OnSecurity x) n answer got = refl
kind_call named host a b OnNothing n answer got = refl

kind_named : (first : Bool) (named : ℕ) (d : Doing) (got : Answer) → (1 <? named) ≡ false → doing_kind named d got ≡ act_kind first (toward (mine? first named) d) got
kind_named first named d got e = ap (λ (k : ℕ). doing_kind k d got) (sym (side_named named e)) ∙ sym (kind_place first (named =? 0) d got)

pub kind_event : (first : Bool) (event : Event) (got : Answer) → module_over1 event ≡ false → event_kind event got ≡ act_kind first (act first event) got
kind_event first (call host named revision index request answer) got e =
    kind_call named host (unserved? revision index) (misfit? index request) (call_in revision index request) (row_of index).answer answer got
    ∙ kind_named first named (call_doing host revision index request answer) got e
kind_event first tick got e = refl
kind_event first (power named) got e = kind_named first named Powers got e
kind_event first (reading named new) got e = kind_named first named (Reads new) got e

pub kind_act : (first : Bool) (x : Exchange) → module_over1 x.event ≡ false → kind_of x ≡ act_kind first (act first x.event) x.got
kind_act first x e = kind_event first x.event x.got e
