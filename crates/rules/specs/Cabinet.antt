-- Document 01, "What the module model covers": "device record, staging area and one call, tick or power cycle go in; answer bytes and the new record and
-- area come out." Document 02, T-04: a health reading "becomes a fourth event"; T-09: two modules, one staging area. The checks of an event are made in the page's
-- order; then its module's own step (Module.antt), which is put in its place; then the answer's bytes. Record and area go in and come out as one, a `Whole`.
-- Assumes nothing.
use Rattle.std.specs.Prelude.{ℕ, List, [], ◌∷◌, ◌++◌}
use Rattle.rules.specs.Record.{Whole, whole_of, device_of, with_device_at, standing, in_place}
use Rattle.rules.specs.Refusals.{Check, verdict, R1Check, R4Check, tick_checks, event_checks, status_length, status_answer, answer_after, record_left}
use Rattle.rules.specs.Table.{row_of, served_check, length_check}
use Rattle.rules.specs.Module.{Call, call_in, checks, accepted_answer, change, device_ticked, device_powered, device_keeping}
use Rattle.rules.specs.declared.{Refusal.TheVariants.{R, Status}, Reply.Reply, Reading.Reading}
use Rattle.rules.specs.Refusals.{Verdict}
use Rattle.std.specs.Prelude.{Ok, Err}

-- what comes out of an event: the reply, the cabinet after it, and the answer buffer
pub record Result : Type 0 where
  pub reply : Reply
  pub after : Whole
  pub answer : List ℕ

-- "Order: R1, R2, R3, status 1, request length," with R5 "before R3"
abbrev pub gate_checks : Whole → (named revision index : ℕ) (request answer : List ℕ) → List Check
gate_checks w named revision index request answer =
    R1Check answer ∷ event_checks w named ++ (served_check revision index ∷ length_check index request ∷ [])

-- "then each function's checks as listed": those of the module that the call names
abbrev pub call_checks : Whole → (named revision index : ℕ) (request answer : List ℕ) → List Check
call_checks w named revision index request answer =
    gate_checks w named revision index request answer ++ checks (standing named w) (call_in revision index request)

abbrev pub reply : Verdict → ℕ → Reply
reply v n = record { verdict = v; length = n }

-- What a verdict on a call comes to, for a function whose answer has n bytes. "R numbers write nothing."
abbrev pub outcome : Verdict → Whole → (named : ℕ) → Call → (n : ℕ) (answer : List ℕ) → Result
outcome (Ok tt) w named asked n answer =
    record {
      reply = reply (Ok tt) n;
      after = in_place named (change (standing named w) asked) w;
      answer = answer_after (accepted_answer (standing named w) asked) answer;
    }
outcome (Err (R number)) w named asked n answer = record { reply = reply (Err (R number)) 0; after = w; answer = answer }
outcome (Err (Status status ext)) w named asked n answer =
    record {
      reply = reply (Err (Status status ext)) (status_length status n);
      after = whole_of (record_left status named w.cabinet) w.area;
      answer = answer_after (status_answer status ext n) answer;
    }

-- A call: any record, any area, any module, revision and function index, any request, any answer buffer.
unfoldable pub call_result : Whole → (named revision index : ℕ) (request answer : List ℕ) → Result
call_result w named revision index request answer =
    outcome (verdict (call_checks w named revision index request answer)) w named (call_in revision index request) (row_of index).answer answer

-- what a verdict on a tick, a power cycle or a reading comes to; no buffer is lent, so that the answer is the empty list
abbrev pub happened : Verdict → (changed was : Whole) → Result
happened (Ok tt) changed was = record { reply = reply (Ok tt) 0; after = changed; answer = [] }
happened (Err refusal) changed was = record { reply = reply (Err refusal) 0; after = was; answer = [] }

-- the cabinet after an accepted tick: "Ticks reach both"
abbrev pub ticked : Whole → Whole
ticked w =
    record {
      cabinet = record {
        contexts = w.cabinet.contexts;
        first = device_ticked w.area w.cabinet.first;
        second = device_ticked w.area w.cabinet.second;
      };
      area = w.area;
    }

-- "Tick."
unfoldable pub tick_result : Whole → Result
tick_result w = happened (verdict (tick_checks w)) (ticked w) w

-- after an accepted power cycle: "a power cycle or reading names its module"
abbrev pub powered : Whole → (named : ℕ) → Whole
powered w named = whole_of (with_device_at named (device_powered (device_of named w.cabinet)) w.cabinet) w.area

-- "Power cycle."
unfoldable pub power_result : Whole → (named : ℕ) → Result
power_result w named = happened (verdict (event_checks w named)) (powered w named) w

-- the checks of a reading: "spare over 100 in a new reading is R4, after R3; a reading gives R2, R3 and R4 only", and R5 (T-09)
abbrev pub reading_checks : Whole → (named : ℕ) → Reading → List Check
reading_checks w named new = event_checks w named ++ (R4Check new ∷ [])

-- after an accepted reading
abbrev pub kept : Whole → (named : ℕ) → Reading → Whole
kept w named new = whole_of (with_device_at named (device_keeping new (device_of named w.cabinet)) w.cabinet) w.area

-- A health reading.
unfoldable pub reading_result : Whole → (named : ℕ) → Reading → Result
reading_result w named new = happened (verdict (reading_checks w named new)) (kept w named new) w

-- An event: a host's call, lent that host's answer buffer; a tick; a power cycle; a health reading. All but a tick name their module. Which host calls plays no part
-- in the answer.
pub data Event : Type 0 where
  call : (host named revision index : ℕ) (request answer : List ℕ) → Event
  tick : Event
  power : (named : ℕ) → Event
  reading : (named : ℕ) (new : Reading) → Event

-- The whole cabinet: what comes out of an event.
abbrev pub step : Whole → Event → Result
step w (call host named revision index request answer) = call_result w named revision index request answer
step w tick = tick_result w
step w (power named) = power_result w named
step w (reading named new) = reading_result w named new
