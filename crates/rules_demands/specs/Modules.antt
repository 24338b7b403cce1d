-- Document 02, T-09, written out with none of the words of rules' Apart.antt: what an event leaves of the module that it does not name; two runs and what one module is
-- answered in them; and the numbers of a tick and of a power cycle. And by examples: that Starts must be answered alike for it, and with the same context; which
-- cabinets are possible; which R number comes first; in what order a Start is refused; and the host byte of a log.
-- Assumes nothing.
use Rattle.std.specs.Prelude.{ℕ, ◌≤◌}
use mathlib.Core.{Path.◌≡◌, Logic.◌⊎◌, Bool.{Bool, true, false, ◌&&◌}, List.{List, [], ◌∷◌, ◌++◌, map}}
use Rattle.std.specs.Prelude.{length, replicate}
use Rattle.std.specs.Prelude.{if◌then◌else◌}
use Rattle.rules.specs.Tests.{◌=?◌}
use Rattle.rules.specs.Bytes.{le, number_at}
use Rattle.rules.specs.With.{◌with_transfer◌, ◌with_phase◌, ◌with_current◌, ◌with_ticks◌, ◌with_reason◌}
use Rattle.rules.specs.Record.{fresh, possible_cabinet, Whole, whole_of}
use Rattle.rules.specs.Refusals.{verdict}
use Rattle.rules.specs.Transfer.{Start, transfer_checks}
use Rattle.rules.specs.Cabinet.{Event, call, tick, power, reading, step}
use Rattle.rules.specs.Log.{entry_of}
use Rattle.rules.specs.declared.{Refusal.Refusal, Refusal.TheVariants.{R, Status}, Reply.Reply, Reading.Reading, Device.Device}
use Rattle.rules.specs.declared.{Phase.Phase, Phase.TheVariants.{Idle, Receiving, Verifying, Staged, Failed}, Entry.TheVariants.{Call, Tick, Power, Health, Bad}}
use Rattle.rules.specs.Refusals.{Verdict}
use Rattle.rules_demands.specs.Health.{measured}
use Rattle.std.specs.Prelude.{Ok, Err}

-- an event that names one module, or none that there is, leaves the record of the other, from any record and any area
pub record OtherWrittenOut (w : Whole) : Type 0 where
  pub calls_leave_0 : (host named revision index : ℕ) (request buffer : List ℕ) → (named ≡ 0 → ⊥)
      → (step w (call host named revision index request buffer)).after.cabinet.first ≡ w.cabinet.first
  pub calls_leave_1 : (host named revision index : ℕ) (request buffer : List ℕ) → (named ≡ 1 → ⊥)
      → (step w (call host named revision index request buffer)).after.cabinet.second ≡ w.cabinet.second
  pub power_leaves_0 : (named : ℕ) → (named ≡ 0 → ⊥) → (step w (power named)).after.cabinet.first ≡ w.cabinet.first
  pub power_leaves_1 : (named : ℕ) → (named ≡ 1 → ⊥) → (step w (power named)).after.cabinet.second ≡ w.cabinet.second
  pub readings_leave_0 : (named : ℕ) (new : Reading) → (named ≡ 0 → ⊥) → (step w (reading named new)).after.cabinet.first ≡ w.cabinet.first
  pub readings_leave_1 : (named : ℕ) (new : Reading) → (named ≡ 1 → ⊥) → (step w (reading named new)).after.cabinet.second ≡ w.cabinet.second

-- an event that is for a module: it names it, or is a tick; and a call of function 13 to it
abbrev pub is_for : (own : ℕ) → Event → Bool
is_for own (call host named revision index request buffer) = named =? own
is_for own tick = true
is_for own (power named) = named =? own
is_for own (reading named new) = named =? own

abbrev pub is_start_for : (own : ℕ) → Event → Bool
is_start_for own (call host named revision index request buffer) = named =? own && index =? 13
is_start_for own tick = false
is_start_for own (power named) = false
is_start_for own (reading named new) = false

-- the events of a list that are for the module
abbrev pub meant : (own : ℕ) → List Event → List Event
meant own [] = []
meant own (event ∷ events) = if is_for own event then event ∷ meant own events else meant own events

-- an event, what was replied, and the whole buffer afterwards
pub record Heard : Type 0 where
  pub event : Event
  pub reply : Reply
  pub buffer : List ℕ

-- what a run from a cabinet answers: to the events that pass the test, each with its answer
abbrev pub heard : (Event → Bool) → Whole → List Event → List Heard
heard test w [] = []
heard test w (event ∷ events) =
    if test event then record { event = event; reply = (step w event).reply; buffer = (step w event).answer } ∷ heard test (step w event).after events
    else heard test (step w event).after events

-- two fresh modules, with this area
abbrev pub begun : (area : List ℕ) → Whole
begun area = whole_of (record { contexts = 0; first = fresh; second = fresh }) area

pub record ModulesWrittenOut : Type 0 where
  pub other_left : (w : Whole) → OtherWrittenOut w
  pub unseen : (own : ℕ) → own ≤ 1 → (area another : List ℕ) → length area ≡ 16384 → length another ≡ 16384 → (events others : List Event)
      → meant own events ≡ meant own others
      → heard (is_start_for own) (begun area) events ≡ heard (is_start_for own) (begun another) others
      → heard (is_for own) (begun area) events ≡ heard (is_for own) (begun another) others
  pub of_ticks : (w : Whole) (refusal : Refusal) → (step w tick).reply.verdict ≡ Err refusal → (refusal ≡ R 2) ⊎ (refusal ≡ R 3)
  pub of_power : (w : Whole) (named : ℕ) (refusal : Refusal) → (step w (power named)).reply.verdict ≡ Err refusal
      → (refusal ≡ R 2) ⊎ ((refusal ≡ R 5) ⊎ (refusal ≡ R 3))

-- a host's calls at revision 2, lent 132 zeros: a Start, a Finish that aborts, and a Query, to a module
abbrev pub asks : (named index : ℕ) (request : List ℕ) → Event
asks named index request = call 1 named 2 index request (replicate 132 0)

abbrev pub start : (named : ℕ) → Event
start named = asks named 13 []

abbrev pub aborts : (named context : ℕ) → Event
aborts named context = asks named 15 (1 ∷ 0 ∷ 0 ∷ 0 ∷ le 4 context)

abbrev pub asks_after : (named context : ℕ) → Event
asks_after named context = asks named 16 (le 4 context)

-- what module 0 is answered in a run from two fresh modules: its verdicts; those of its Starts, and their contexts
abbrev pub verdicts : List Event → List Verdict
verdicts events = map (λ x. x.reply.verdict) (heard (is_for 0) (begun (replicate 16384 0)) events)

abbrev pub start_verdicts : List Event → List Verdict
start_verdicts events = map (λ x. x.reply.verdict) (heard (is_start_for 0) (begun (replicate 16384 0)) events)

abbrev pub start_contexts : List Event → List ℕ
start_contexts events = map (λ x. number_at 4 4 x.buffer) (heard (is_start_for 0) (begun (replicate 16384 0)) events)

-- a Start of module 0 alone, and beside one of module 1 that has the area
abbrev pub alone : List Event
alone = start 0 ∷ []

abbrev pub beside : List Event
beside = start 1 ∷ start 0 ∷ []

-- a Start of module 0 and a Query with context 1, and the same after a transfer of module 1 that was aborted
abbrev pub first : List Event
first = start 0 ∷ asks_after 0 1 ∷ []

abbrev pub later : List Event
later = start 1 ∷ aborts 1 1 ∷ start 0 ∷ asks_after 0 1 ∷ []

-- In each pair the same events are for module 0, and what it is answered differs: where its Starts were answered with another status; and where they were answered with
-- the same status and another context (docs/DECISIONS.md, B36). So both must be alike.
pub record StartsNeeded : Type 0 where
  pub meant_alike : meant 0 beside ≡ meant 0 alone
  pub alone_answered : verdicts alone ≡ (Ok tt) ∷ []
  pub beside_answered : verdicts beside ≡ Err (Status 8 0) ∷ []
  pub meant_alike_later : meant 0 later ≡ meant 0 first
  pub statuses_alike : start_verdicts later ≡ start_verdicts first
  pub first_context : start_contexts first ≡ 1 ∷ []
  pub later_context : start_contexts later ≡ 2 ∷ []
  pub first_answered : verdicts first ≡ (Ok tt) ∷ Err (Status 7 4) ∷ []
  pub later_answered : verdicts later ≡ (Ok tt) ∷ Err (Status 7 1) ∷ []

-- a module in each phase, with this context; and cabinets of two modules with so many contexts given out
abbrev pub in_phase : Phase → (context : ℕ) → Device
in_phase phase context = fresh with_transfer (fresh.transfer with_phase phase with_current context)

abbrev pub in_each_phase : (context : ℕ) → List Device
in_each_phase context =
    in_phase Idle context
    ∷ in_phase Receiving context
    ∷ (fresh with_transfer (fresh.transfer with_phase Verifying with_current context with_ticks 8))
    ∷ in_phase Staged context
    ∷ (fresh with_transfer (fresh.transfer with_phase Failed with_current context with_reason 1))
    ∷ []

abbrev pub two : (contexts : ℕ) → Device → Device → Whole
two contexts d e = whole_of (record { contexts = contexts; first = d; second = e }) (replicate 16384 0)

abbrev pub is_possible : Whole → Bool
is_possible w = possible_cabinet w.cabinet

-- the same with an area that is a byte short
abbrev pub short_of : Whole → Whole
short_of w = whole_of w.cabinet (replicate 16383 0)

-- the events of a module: a call, a power cycle, and a reading over 100
abbrev pub each_of : (named : ℕ) → List Event
each_of named = asks named 12 [] ∷ power named ∷ reading named (measured 101 0 0) ∷ []

abbrev pub answered : Whole → Event → Verdict
answered w event = (step w event).reply.verdict

-- a Start of a module in each phase, with so many contexts given out and the area taken or not
abbrev pub starts_in : (given : ℕ) (taken : Bool) → List Verdict
starts_in given taken = map (λ d. verdict (transfer_checks d.transfer given taken Start)) (in_each_phase 1)

-- a record of a log by its kind and its host byte: a call of function 13 at revision 2; of any other kind, with zeros
abbrev pub call_by : (byte : ℕ) → List ℕ
call_by byte = 1 ∷ byte ∷ 2 ∷ 0 ∷ 13 ∷ replicate 539 0

abbrev pub record_by : (kind byte : ℕ) → List ℕ
record_by kind byte = kind ∷ byte ∷ replicate 542 0

pub record ModulesHeld : Type 0 where
  -- a row for each phase of module 0, and in it one for each of module 1: at most one is Receiving or Verifying
  pub at_most_one : map (λ d. map (λ e. is_possible (two 1 d e)) (in_each_phase 1)) (in_each_phase 1)
      ≡ replicate 5 true ∷ (true ∷ false ∷ false ∷ true ∷ true ∷ []) ∷ (true ∷ false ∷ false ∷ true ∷ true ∷ []) ∷ replicate 5 true ∷ replicate 5 true ∷ []
  -- the module's own context: 0, 1 and 2 where one is given out, in each phase, of module 0 and of module 1
  pub contexts_of_0 : map (λ context. map (λ d. is_possible (two 1 d fresh)) (in_each_phase context)) (0 ∷ 1 ∷ 2 ∷ []) ≡ (true ∷ false ∷ false ∷ false ∷ false ∷ []) ∷ replicate 5 true ∷ replicate 5 false ∷ []
  pub contexts_of_1 : map (λ context. map (λ d. is_possible (two 1 fresh d)) (in_each_phase context)) (0 ∷ 1 ∷ 2 ∷ []) ≡ (true ∷ false ∷ false ∷ false ∷ false ∷ []) ∷ replicate 5 true ∷ replicate 5 false ∷ []
  -- both modules Receiving: R3 to each module's events and to a tick; R5 to those of module 2; R2 to all where the area is short
  pub both_receiving : map (answered (two 1 (in_phase Receiving 1) (in_phase Receiving 1))) (each_of 0 ++ each_of 1 ++ (tick ∷ [])) ≡ replicate 7 (Err (R 3))
  pub over_1_first : map (answered (two 1 (in_phase Receiving 1) (in_phase Receiving 1))) (each_of 2) ≡ replicate 3 (Err (R 5))
  pub short_first : map (answered (short_of (two 1 (in_phase Receiving 1) (in_phase Receiving 1)))) (each_of 0 ++ each_of 2 ++ (tick ∷ [])) ≡ replicate 7 (Err (R 2))
  pub over_1_of_good : map (answered (two 1 (in_phase Receiving 1) fresh)) (each_of 2) ≡ replicate 3 (Err (R 5))
  -- a Start: 7/1, 7/2, then 8 where the area is taken, then 8 where every context is given out
  pub area_free : starts_in 1 false ≡ (Ok tt) ∷ Err (Status 7 1) ∷ Err (Status 7 1) ∷ Err (Status 7 2) ∷ (Ok tt) ∷ []
  pub area_taken : starts_in 1 true ≡ Err (Status 8 0) ∷ Err (Status 7 1) ∷ Err (Status 7 1) ∷ Err (Status 7 2) ∷ Err (Status 8 0) ∷ []
  pub all_given : starts_in 4294967295 false ≡ Err (Status 8 0) ∷ Err (Status 7 1) ∷ Err (Status 7 1) ∷ Err (Status 7 2) ∷ Err (Status 8 0) ∷ []
  -- the host byte: its high four bits are the module, its low four the host, and zero but in a call
  pub calls_name : map (λ byte. entry_of (call_by byte)) (0x01 ∷ 0x04 ∷ 0x11 ∷ 0x14 ∷ []) ≡ Call 0 1 2 13 0 ∷ Call 0 4 2 13 0 ∷ Call 1 1 2 13 0 ∷ Call 1 4 2 13 0 ∷ []
  pub calls_bad : map (λ byte. entry_of (call_by byte)) (0x00 ∷ 0x05 ∷ 0x10 ∷ 0x15 ∷ 0x21 ∷ 0xF1 ∷ []) ≡ replicate 6 Bad
  pub ticks_name : map (λ byte. entry_of (record_by 2 byte)) (0x00 ∷ 0x01 ∷ 0x10 ∷ []) ≡ Tick ∷ Bad ∷ Bad ∷ []
  pub powers_name : map (λ byte. entry_of (record_by 3 byte)) (0x00 ∷ 0x10 ∷ 0x01 ∷ 0x11 ∷ 0x20 ∷ []) ≡ Power 0 ∷ Power 1 ∷ Bad ∷ Bad ∷ Bad ∷ []
  pub readings_name : map (λ byte. entry_of (record_by 4 byte)) (0x00 ∷ 0x10 ∷ 0x01 ∷ 0x11 ∷ 0x20 ∷ []) ≡ Health 0 (measured 0 0 0) ∷ Health 1 (measured 0 0 0) ∷ Bad ∷ Bad ∷ Bad ∷ []
