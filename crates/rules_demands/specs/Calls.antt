-- Demand 1 written out, with none of the words of rules' Demand1.antt: what a call comes to, for each verdict, as one result; what a reading comes to;
-- which numbers there are; and what every event keeps. `demand_1` promises both, this one proved from that one, so that a line of Demand1.antt that says less no longer gives it.
-- Assumes nothing.
use Rattle.std.specs.Prelude.{ℕ, ◌+◌, ◌-◌, ◌<◌}
use mathlib.Core.{Path.◌≡◌, Logic.{◌⊎◌, ◌↔◌}, Bool.{true, not, ◌||◌}, List.{List, [], ◌∷◌, ◌++◌}}
use Rattle.std.specs.Prelude.{length, take, drop}
use Rattle.std.specs.Prelude.{if◌then◌else◌}
use Rattle.rules.specs.Tests.{◌=?◌, ◌<?◌}
use Rattle.rules.specs.Bytes.{le, zeros}
use Rattle.rules.specs.With.{◌with_attempts◌, ◌with_security◌, ◌with_reading◌, ◌with_trips◌}
use Rattle.rules.specs.Record.{fresh, possible_cabinet, Whole, whole_of, standing}
use Rattle.rules.specs.Refusals.{◌gives◌, verdict}
use Rattle.rules.specs.Table.{row_of, served_check, length_check}
use Rattle.rules.specs.Health.{trips}
use Rattle.rules.specs.Module.{call_in, checks}
use Rattle.rules.specs.Cabinet.{Result, reply, call_result, reading_result, Event, call, tick, power, reading, step}
use Rattle.rules.specs.declared.{Refusal.Refusal, Refusal.TheVariants.{R, Status}, Reading.Reading, Device.Device}
use Rattle.std.specs.Prelude.{Ok, Err}

-- bytes over the front of a buffer
abbrev pub over_front : (bytes buffer : List ℕ) → List ℕ
over_front bytes buffer = bytes ++ drop (length bytes) buffer

-- how many bytes a status answers, for a function whose answer has n
abbrev pub bytes_told : (status n : ℕ) → ℕ
bytes_told status n =
    if status =? 1 || status =? 10 || status =? 11 then 4
    else if status =? 6 then 12
    else if status =? 8 then 8
    else n

-- the cabinet, with one module's record changed: module 0's, or the other's
abbrev pub changed_in : (named : ℕ) → (Device → Device) → Whole → Whole
changed_in named change w =
    if named =? 0 then whole_of (record { contexts = w.cabinet.contexts; first = change w.cabinet.first; second = w.cabinet.second }) w.area
    else whole_of (record { contexts = w.cabinet.contexts; first = w.cabinet.first; second = change w.cabinet.second }) w.area

-- what a status leaves: the cabinet as it was, but for one more attempt of the module after a wrong passphrase
abbrev pub left_by : (status named : ℕ) → Whole → Whole
left_by status named w =
    if status =? 11 then changed_in named (λ d. d with_security (d.security with_attempts (d.security.attempts + 1))) w
    else w

-- an accepted call's bytes
pub record Served (index : ℕ) (buffer : List ℕ) (result : Result) : Type 0 where
  pub bytes : List ℕ
  pub filled : result.answer ≡ over_front bytes buffer
  pub size : length bytes ≡ (row_of index).answer
  pub told : result.reply.length ≡ (row_of index).answer
  pub status_0 : (index ≡ 0 → ⊥) → take 4 bytes ≡ 0 ∷ 0 ∷ 0 ∷ 0 ∷ []

pub record CallWrittenOut (w : Whole) (named revision index : ℕ) (request buffer : List ℕ) : Type 0 where
  -- the first row that is true decides, in the page's order
  pub judged : (call_result w named revision index request buffer).reply.verdict
      ≡ verdict
      ((length buffer <? 132 gives R 1)
      ∷ (not (length w.area =? 16384) gives R 2)
      ∷ (1 <? named gives R 5)
      ∷ (not (possible_cabinet w.cabinet) gives R 3)
      ∷ served_check revision index
      ∷ length_check index request
      ∷ checks (standing named w) (call_in revision index request))
  -- an R number: nothing is written and nothing changes
  pub by_R : (number : ℕ) → (call_result w named revision index request buffer).reply.verdict ≡ Err (R number)
      → call_result w named revision index request buffer ≡ record { reply = reply (Err (R number)) 0; after = w; answer = buffer }
  -- a status: it is written, with its extended number and zeros, and nothing changes but an attempt
  pub by_status : (status ext : ℕ) → (call_result w named revision index request buffer).reply.verdict ≡ Err (Status status ext)
      → call_result w named revision index request buffer
      ≡ record {
        reply = reply (Err (Status status ext)) (bytes_told status (row_of index).answer);
        after = left_by status named w;
        answer = over_front (le 2 status ++ le 2 ext ++ zeros (bytes_told status (row_of index).answer - 4)) buffer;
      }
  pub served : (call_result w named revision index request buffer).reply.verdict ≡ Ok tt
      → Served index buffer (call_result w named revision index request buffer)

-- the numbers of the page's table, which calls give
abbrev pub numbers_of_the_page : List Refusal
numbers_of_the_page =
    R 1
    ∷ R 2
    ∷ R 5
    ∷ R 3
    ∷ Status 1 0
    ∷ Status 3 0
    ∷ Status 6 0
    ∷ Status 7 1
    ∷ Status 7 2
    ∷ Status 7 3
    ∷ Status 7 4
    ∷ Status 8 0
    ∷ Status 10 0
    ∷ Status 11 0
    ∷ []

abbrev pub OneOf : List Refusal → Refusal → Type 0
OneOf [] refusal = ⊥
OneOf (number ∷ numbers) refusal = (refusal ≡ number) ⊎ OneOf numbers refusal

-- some call is refused by this number
abbrev pub IsGiven : Refusal → Type 0
IsGiven refusal =
    (w : Whole)
    × (named : ℕ)
    × (revision : ℕ)
    × (index : ℕ)
    × (request : List ℕ)
    × (buffer : List ℕ)
    × ((call_result w named revision index request buffer).reply.verdict ≡ Err refusal)

-- the event is a call with a buffer of less than 132 bytes
abbrev pub LendsTooLittle : Event → Type 0
LendsTooLittle (call host named revision index request buffer) = length buffer < 132
LendsTooLittle tick = ⊥
LendsTooLittle (power named) = ⊥
LendsTooLittle (reading named new) = ⊥

-- the event names a module over 1
abbrev pub NamesNoModule : Event → Type 0
NamesNoModule (call host named revision index request buffer) = 1 < named
NamesNoModule tick = ⊥
NamesNoModule (power named) = 1 < named
NamesNoModule (reading named new) = 1 < named

-- the event is a reading whose spare is over 100
abbrev pub ReadsOver100 : Event → Type 0
ReadsOver100 (call host named revision index request buffer) = ⊥
ReadsOver100 tick = ⊥
ReadsOver100 (power named) = ⊥
ReadsOver100 (reading named new) = 100 < new.spare

-- What a reading comes to: the first row that is true refuses it, and nothing changes; or it is kept, with the trips byte that it gives, and nothing
-- else changes.
pub record ReadingWrittenOut (w : Whole) (named : ℕ) (new : Reading) : Type 0 where
  pub judged_so : (reading_result w named new).reply.verdict
      ≡ verdict ((not (length w.area =? 16384) gives R 2) ∷ (1 <? named gives R 5) ∷ (not (possible_cabinet w.cabinet) gives R 3) ∷ (100 <? new.spare gives R 4) ∷ [])
  pub nothing_changed : (refusal : Refusal) → (reading_result w named new).reply.verdict ≡ Err refusal
      → reading_result w named new ≡ record { reply = reply (Err refusal) 0; after = w; answer = [] }
  pub kept_it : (reading_result w named new).reply.verdict ≡ Ok tt
      → reading_result w named new ≡ record { reply = reply (Ok tt) 0; after = changed_in named (λ d. d with_reading new with_trips (trips d.thresholds new)) w; answer = [] }

-- some reading is refused by this number
abbrev pub IsGivenByReading : Refusal → Type 0
IsGivenByReading refusal = (w : Whole) × (named : ℕ) × (new : Reading) × ((reading_result w named new).reply.verdict ≡ Err refusal)

pub record EventWrittenOut (w : Whole) (event : Event) : Type 0 where
  pub stays_possible : possible_cabinet (step w event).after.cabinet ≡ true
  pub stays_long : length (step w event).after.area ≡ 16384
  pub R1_R5_and_R4_alone : (number : ℕ) → (step w event).reply.verdict ≡ Err (R number)
      → ((number ≡ 1) × LendsTooLittle event)
      ⊎ (((number ≡ 5) × NamesNoModule event) ⊎ ((number ≡ 4) × ReadsOver100 event))

pub record Demand1WrittenOut : Type 0 where
  pub calls : (w : Whole) (named revision index : ℕ) (request buffer : List ℕ) → CallWrittenOut w named revision index request buffer
  -- a number is given by some call exactly when it is in the page's table
  pub numbers : (refusal : Refusal) → IsGiven refusal ↔ OneOf numbers_of_the_page refusal
  pub readings : (w : Whole) (named : ℕ) (new : Reading) → ReadingWrittenOut w named new
  pub numbers_of_readings : (refusal : Refusal) → IsGivenByReading refusal ↔ OneOf (R 2 ∷ R 5 ∷ R 3 ∷ R 4 ∷ []) refusal
  pub events : (w : Whole) (event : Event) → possible_cabinet w.cabinet ≡ true → length w.area ≡ 16384 → EventWrittenOut w event
  pub begins_possible : possible_cabinet (record { contexts = 0; first = fresh; second = fresh }) ≡ true
