-- The cabinet without its R numbers, seen from one of its modules: its own record, the other's, the shared number and the area. An event is something that the one or
-- the other is asked to do, or a tick. What a module does falls into two parts that do not touch: what a transfer uses, and the rest. Definitions for the proofs only.
-- Assumes nothing.
use Prim.Native.Nat.{ℕ, ◌+◌}
use mathlib.Core.{Bool.{Bool, true, false, not, ◌&&◌}, List.{List, ◌∷◌, ◌++◌, []}}
use Rattle.std.specs.Prelude.{if◌then◌else◌}
use Rattle.rules.specs.{Tests.{◌=?◌}, Bytes.le, With.{◌with_attempts◌, ◌with_transfer◌}}
use Rattle.rules.specs.{Refusals.{Check, ◌gives◌, verdict, R4Check, status_bytes, status_length, status_answer, answer_after}, Table.{row_of, served?, fits?, mask}}
use Rattle.rules.specs.{Thresholds.{ThresholdCall, threshold_checks, threshold_answer, threshold_change}, Health.{trips, answer_with}}
use Rattle.rules.specs.Transfer.{TransferCall, transfer_checks, transfer_answer, transfer_change, given_after, transfer_area, tick_change, transfer_power}
use Rattle.rules.specs.{Security.{SecurityCall, security_checks, security_answer, security_change, security_power}, Record.{has_area, Whole}}
use Rattle.rules.specs.{Module.{Call, OnMask, OnHealth, OnThresholds, OnTransfer, OnSecurity, OnNothing, call_in, trips_after, device_ticked}, History.Machine}
use Rattle.rules.specs.{Cabinet.{Event, call, tick, power, reading, reply}, Transfers.{Answer, Kind, Ticked, Powered, Other, call_kind}, declared.Refusal.TheVariants.{R, Status}}
use Rattle.rules.specs.{declared.Transfer.Transfer, declared.Thresholds.Thresholds, declared.Security.Security, declared.Reading.Reading, declared.Device.Device}
use Rattle.rules.specs.Refusals.{Verdict}
use Rattle.std.specs.Prelude.{Ok, Err}

-- the cabinet, seen from one of its modules
pub record Seen : Type 0 where
  pub own : Device
  pub other : Device
  pub given : ℕ
  pub area : List ℕ

-- from module 0, where the test is true, or from module 1; and the module's number
abbrev pub seen_from : (first : Bool) → Whole → Seen
seen_from first w =
    record {
      own = if first then w.cabinet.first else w.cabinet.second;
      other = if first then w.cabinet.second else w.cabinet.first;
      given = w.cabinet.contexts;
      area = w.area;
    }

abbrev pub number : (first : Bool) → ℕ
number first = if first then 0 else 1

-- from the other one
abbrev pub turned : Seen → Seen
turned s = record { own = s.other; other = s.own; given = s.given; area = s.area }

-- the other module has the area
abbrev pub taken : Seen → Bool
taken s = has_area s.other.transfer

-- what a transfer uses; the rest
pub record TransferPart : Type 0 where
  pub transfer : Transfer
  pub given : ℕ
  pub area : List ℕ

infixl 10 ◌with_part◌ ◌with_its_part◌ ◌with_its_rest◌
abbrev pub ◌with_part◌ : TransferPart → Transfer → TransferPart
p with_part t = record { transfer = t; given = p.given; area = p.area }

pub record Rest : Type 0 where
  pub thresholds : Thresholds
  pub security : Security
  pub reading : Reading
  pub trips : ℕ

abbrev pub part_of : Seen → TransferPart
part_of s = record { transfer = s.own.transfer; given = s.given; area = s.area }

abbrev pub rest_of : Seen → Rest
rest_of s = record { thresholds = s.own.thresholds; security = s.own.security; reading = s.own.reading; trips = s.own.trips }

-- the module with this part, and with this rest
abbrev pub ◌with_its_part◌ : Seen → TransferPart → Seen
s with_its_part p = record { own = s.own with_transfer p.transfer; other = s.other; given = p.given; area = p.area }

abbrev pub ◌with_its_rest◌ : Seen → Rest → Seen
s with_its_rest r =
    record {
      own = record { transfer = s.own.transfer; thresholds = r.thresholds; security = r.security; reading = r.reading; trips = r.trips };
      other = s.other;
      given = s.given;
      area = s.area;
    }

-- a call that touches the rest alone
pub data RestCall : Type 0 where
  Masks : (revision : ℕ) → RestCall
  Healths : RestCall
  Limits : ThresholdCall → RestCall
  Locks : SecurityCall → RestCall
  Nothing : RestCall

abbrev pub to_call : RestCall → Call
to_call (Masks revision) = OnMask revision
to_call Healths = OnHealth
to_call (Limits x) = OnThresholds x
to_call (Locks x) = OnSecurity x
to_call Nothing = OnNothing

-- what a module is asked to do, by the part that it touches; `unserved` and `misfit` are the tests of the table's two checks, n is the answer's length
pub data Doing : Type 0 where
  Transfers : (host : ℕ) (unserved misfit : Bool) (x : TransferCall) (n : ℕ) (answer : List ℕ) → Doing
  Others : (unserved misfit : Bool) (x : RestCall) (n : ℕ) (answer : List ℕ) → Doing
  Powers : Doing
  Reads : (new : Reading) → Doing

-- an event, seen from a module: it is asked something, or the other one is; or a tick
pub data Act : Type 0 where
  Mine : Doing → Act
  Theirs : Doing → Act
  Ticks : Act

abbrev pub doing_of : (host : ℕ) (unserved misfit : Bool) → Call → (n : ℕ) (answer : List ℕ) → Doing
doing_of host a b (OnMask revision) n answer = Others a b (Masks revision) n answer
doing_of host a b OnHealth n answer = Others a b Healths n answer
doing_of host a b (OnThresholds x) n answer = Others a b (Limits x) n answer
doing_of host a b (OnTransfer x) n answer = Transfers host a b x n answer
doing_of host a b (OnSecurity x) n answer = Others a b (Locks x) n answer
doing_of host a b OnNothing n answer = Others a b Nothing n answer

abbrev pub unserved? : (revision index : ℕ) → Bool
unserved? revision index = not (served? revision (row_of index)) && not (index =? 0)

abbrev pub misfit? : (index : ℕ) (request : List ℕ) → Bool
misfit? index request = not (fits? (row_of index) request)

-- whose it is: `first` tells from which module it is seen
abbrev pub mine? : (first : Bool) (named : ℕ) → Bool
mine? first named = if first then named =? 0 else not (named =? 0)

abbrev pub toward : (mine : Bool) → Doing → Act
toward true d = Mine d
toward false d = Theirs d

abbrev pub call_doing : (host revision index : ℕ) (request answer : List ℕ) → Doing
call_doing host revision index request answer =
    doing_of host (unserved? revision index) (misfit? index request) (call_in revision index request) (row_of index).answer answer

abbrev pub act : (first : Bool) → Event → Act
act first (call host named revision index request answer) = toward (mine? first named) (call_doing host revision index request answer)
act first tick = Ticks
act first (power named) = toward (mine? first named) Powers
act first (reading named new) = toward (mine? first named) (Reads new)

abbrev pub front : (unserved misfit : Bool) → List Check
front a b = (a gives Status 1 0) ∷ (b gives Status 3 0) ∷ []

-- what a verdict answers
abbrev pub answer_by : Verdict → (n : ℕ) (bytes answer : List ℕ) → Answer
answer_by (Ok tt) n bytes answer = record { reply = reply (Ok tt) n; buffer = answer_after bytes answer }
answer_by (Err (R number)) n bytes answer = record { reply = reply (Err (R number)) 0; buffer = answer }
answer_by (Err (Status status ext)) n bytes answer =
    record { reply = reply (Err (Status status ext)) (status_length status n); buffer = answer_after (status_answer status ext n) answer }

-- a transfer call, where the area is taken or not
abbrev pub part_verdict : (taken : Bool) → TransferPart → (unserved misfit : Bool) → TransferCall → Verdict
part_verdict k p a b x = verdict (front a b ++ transfer_checks p.transfer p.given k x)

abbrev pub part_change : TransferPart → TransferCall → TransferPart
part_change p x =
    record { transfer = transfer_change p.transfer p.given x; given = given_after p.given x; area = transfer_area x p.area }

abbrev pub part_after : Verdict → TransferPart → TransferCall → TransferPart
part_after (Ok tt) p x = part_change p x
part_after (Err refusal) p x = p

abbrev pub part_answer : (taken : Bool) → TransferPart → (unserved misfit : Bool) (x : TransferCall) (n : ℕ) (answer : List ℕ) → Answer
part_answer k p a b x n answer = answer_by (part_verdict k p a b x) n (status_bytes 0 0 ++ transfer_answer p.transfer p.given x) answer

abbrev pub part_next : (taken : Bool) → TransferPart → (unserved misfit : Bool) → TransferCall → TransferPart
part_next k p a b x = part_after (part_verdict k p a b x) p x

abbrev pub part_tick : TransferPart → TransferPart
part_tick p = p with_part tick_change p.transfer p.area

abbrev pub part_power : TransferPart → TransferPart
part_power p = p with_part transfer_power p.transfer

-- a call on the rest
abbrev pub rest_checks : Rest → RestCall → List Check
rest_checks r (Masks revision) = []
rest_checks r Healths = []
rest_checks r (Limits x) = threshold_checks x
rest_checks r (Locks x) = security_checks r.security x
rest_checks r Nothing = []

abbrev pub rest_bytes : Rest → RestCall → List ℕ
rest_bytes r (Masks revision) = le 4 (mask revision)
rest_bytes r Healths = status_bytes 0 0 ++ answer_with r.trips r.reading
rest_bytes r (Limits x) = status_bytes 0 0 ++ threshold_answer r.thresholds x
rest_bytes r (Locks x) = status_bytes 0 0 ++ security_answer r.security x
rest_bytes r Nothing = status_bytes 0 0

abbrev pub rest_change : Rest → RestCall → Rest
rest_change r (Masks revision) = r
rest_change r Healths = r
rest_change r (Limits x) =
    record { thresholds = threshold_change r.thresholds x; security = r.security; reading = r.reading; trips = trips_after r.thresholds r.reading r.trips x }
rest_change r (Locks x) = record { thresholds = r.thresholds; security = security_change r.security x; reading = r.reading; trips = r.trips }
rest_change r Nothing = r

abbrev pub rest_missed : Rest → Rest
rest_missed r = record { thresholds = r.thresholds; security = r.security with_attempts (r.security.attempts + 1); reading = r.reading; trips = r.trips }

abbrev pub rest_after : Verdict → Rest → RestCall → Rest
rest_after (Ok tt) r x = rest_change r x
rest_after (Err (R number)) r x = r
rest_after (Err (Status status ext)) r x = if status =? 11 then rest_missed r else r

unfoldable pub rest_answer : Rest → (unserved misfit : Bool) (x : RestCall) (n : ℕ) (answer : List ℕ) → Answer
rest_answer r a b x n answer = answer_by (verdict (front a b ++ rest_checks r x)) n (rest_bytes r x) answer

unfoldable pub rest_next : Rest → (unserved misfit : Bool) → RestCall → Rest
rest_next r a b x = rest_after (verdict (front a b ++ rest_checks r x)) r x

unfoldable pub rest_power : Rest → Rest
rest_power r = record { thresholds = r.thresholds; security = security_power r.security; reading = r.reading; trips = r.trips }

-- a reading: its own spare alone may refuse it
abbrev pub read_verdict : Reading → Verdict
read_verdict new = verdict (R4Check new ∷ [])

abbrev pub rest_read : Verdict → Rest → Reading → Rest
rest_read (Ok tt) r new = record { thresholds = r.thresholds; security = r.security; reading = new; trips = trips r.thresholds new }
rest_read (Err refusal) r new = r

abbrev pub read_answer : Verdict → Answer
read_answer v = record { reply = reply v 0; buffer = [] }

abbrev pub done : Answer
done = record { reply = reply (Ok tt) 0; buffer = [] }

-- what a module answers and does
abbrev pub told : Seen → Doing → Answer
told s (Transfers host a b x n answer) = part_answer (taken s) (part_of s) a b x n answer
told s (Others a b x n answer) = rest_answer (rest_of s) a b x n answer
told s Powers = done
told s (Reads new) = read_answer (read_verdict new)

abbrev pub does : Seen → Doing → Seen
does s (Transfers host a b x n answer) = s with_its_part part_next (taken s) (part_of s) a b x
does s (Others a b x n answer) = s with_its_rest rest_next (rest_of s) a b x
does s Powers = s with_its_part part_power (part_of s) with_its_rest rest_power (rest_of s)
does s (Reads new) = s with_its_rest rest_read (read_verdict new) (rest_of s) new

-- the whole
abbrev pub answers : Seen → Act → Answer
answers s (Mine d) = told s d
answers s (Theirs d) = told (turned s) d
answers s Ticks = done

abbrev pub nexts : Seen → Act → Seen
nexts s (Mine d) = does s d
nexts s (Theirs d) = turned (does (turned s) d)
nexts s Ticks = record { own = device_ticked s.area s.own; other = device_ticked s.area s.other; given = s.given; area = s.area }

abbrev pub inner : (first : Bool) → Machine Seen Event Answer
inner first = record { answer = λ s event. answers s (act first event); next = λ s event. nexts s (act first event) }

-- what an act is to the transfers
abbrev pub doing_kind : (named : ℕ) → Doing → Answer → Kind
doing_kind named (Transfers host a b x n answer) got = call_kind named host (OnTransfer x) got
doing_kind named (Others a b x n answer) got = Other
doing_kind named Powers got = Powered named
doing_kind named (Reads new) got = Other

abbrev pub act_kind : (first : Bool) → Act → Answer → Kind
act_kind first (Mine d) got = doing_kind (number first) d got
act_kind first (Theirs d) got = doing_kind (number (not first)) d got
act_kind first Ticks got = Ticked
