-- Demand 1. "Any call, with any bytes and any device record, gets an answer and ends. A call we can't serve is refused by its number in document 01. A
-- refused call leaves the device record and the staging area unchanged, but for one thing: a wrong passphrase adds one to the attempt count."
-- That every call ends is proved of the code, function by function. Which number a call gets, `Cabinet.call_checks` says, row by row in the page's order, and
-- by definition nothing else decides (`judged`). What is proved here: the page's numbers are given and no other; what a refusal leaves and writes; what an
-- accepted call writes; and that every event keeps a possible record possible.
-- Assumes nothing.
use mathlib.Core.{Path.◌≡◌, Bool.{Bool, true, false, ◌||◌}, Logic.◌⊎◌, List.{List, [], ◌∷◌, ◌++◌}}
use Rattle.std.specs.Prelude.{ℕ, ◌-◌, length, take}
use Rattle.std.specs.Prelude.{if◌then◌else◌}
use Rattle.rules.specs.Tests.{◌<?◌, ◌=?◌}
use Rattle.rules.specs.Bytes.{zeros}
use Rattle.rules.specs.Numbers.{area_size, answer_room}
use Rattle.rules.specs.Record.{fresh_cabinet, possible_cabinet, Whole, device_of, with_device_at}
use Rattle.rules.specs.Refusals.{verdict, status_bytes, answer_after, one_attempt_more}
use Rattle.rules.specs.Table.{row_of}
use Rattle.rules.specs.Cabinet.{Result, call_checks, call_result, reading_checks, kept, reading_result, Event, call, tick, power, reading, step}
use Rattle.rules.specs.declared.{Function.TheVariants.Mask, Row.Row, Refusal.Refusal, Refusal.TheVariants.{R, Status}}
use Rattle.rules.specs.declared.Reading.{Reading}
use Rattle.std.specs.Prelude.{Ok, Err}

-- the refusal numbers of document 01, in its table's order, and R5 of document 02, T-09: these are given, each by some call, and no other is by a call: R4 is a
-- reading's. When each is given, the checks say.
abbrev pub refusal_numbers : List Refusal
refusal_numbers =
    R 1
    ∷ R 2
    ∷ R 5
    ∷ R 3
    ∷ Status 1 0
    ∷ Status 3 0
    ∷ Status 6 0
    ∷ Status 7 1
    ∷ Status 7 2
    ∷ Status 7 3
    ∷ Status 7 4
    ∷ Status 8 0
    ∷ Status 10 0
    ∷ Status 11 0
    ∷ []

-- it is one of the list
abbrev pub Among : List Refusal → Refusal → Type 0
Among [] refusal = ⊥
Among (number ∷ numbers) refusal = (refusal ≡ number) ⊎ Among numbers refusal

abbrev pub Numbered : Refusal → Type 0
Numbered refusal = Among refusal_numbers refusal

-- some call on some record is refused by it
pub record GivenBySome (refusal : Refusal) : Type 0 where
  pub found : Whole
  pub named : ℕ
  pub revision : ℕ
  pub index : ℕ
  pub request : List ℕ
  pub answer : List ℕ
  pub refused : (call_result found named revision index request answer).reply.verdict ≡ Err refusal

-- the column "Answer bytes" of the refusal table, for a function whose answer has n bytes: said again, number by number, to hold `status_length` to it
abbrev pub column : (status n : ℕ) → ℕ
column status n =
    if status =? 1 || status =? 10 || status =? 11 then 4
    else if status =? 6 then 12
    else if status =? 8 then 8
    else n

-- A refused call writes its number's bytes. It leaves the record and the area unchanged, but for one thing: said again, as in the demand's words, to hold
-- `record_left` to it.
abbrev pub RefusedBy : Refusal → Whole → (named n : ℕ) (answer : List ℕ) → Result → Type 0
RefusedBy (R number) w named n answer result =
    (result.after.cabinet ≡ w.cabinet) × (result.after.area ≡ w.area) × (result.answer ≡ answer) × (result.reply.length ≡ 0)
RefusedBy (Status status ext) w named n answer result =
    (result.after.cabinet ≡ (if status =? 11 then with_device_at named (one_attempt_more (device_of named w.cabinet)) w.cabinet else w.cabinet))
    × (result.after.area ≡ w.area)
    × (result.answer ≡ answer_after (status_bytes status ext ++ zeros (column status n - 4)) answer)
    × (result.reply.length ≡ column status n)

-- An accepted call gets the function's answer: bytes of its length over the front of the buffer, which begin with status 0 and extended number 0, but for
-- function 0.
pub record Answered (row : Row) (answer : List ℕ) (result : Result) : Type 0 where
  pub bytes : List ℕ
  pub written : result.answer ≡ answer_after bytes answer
  pub long : length bytes ≡ row.answer
  pub told : result.reply.length ≡ row.answer
  pub begins : (row.function ≡ Mask → ⊥) → take 4 bytes ≡ zeros 4

-- Demand 1 of a call
pub record OfCall (w : Whole) (named revision index : ℕ) (request answer : List ℕ) : Type 0 where
  pub judged : (call_result w named revision index request answer).reply.verdict ≡ verdict (call_checks w named revision index request answer)
  pub numbers : (refusal : Refusal) → (call_result w named revision index request answer).reply.verdict ≡ Err refusal → Numbered refusal
  pub leaves : (refusal : Refusal) → (call_result w named revision index request answer).reply.verdict ≡ Err refusal
      → RefusedBy refusal w named (row_of index).answer answer (call_result w named revision index request answer)
  pub answers : (call_result w named revision index request answer).reply.verdict ≡ Ok tt
      → Answered (row_of index) answer (call_result w named revision index request answer)

-- the answer buffer is too short for a call
abbrev pub buffer_too_short : Event → Bool
buffer_too_short (call host named revision index request answer) = length answer <? answer_room
buffer_too_short tick = false
buffer_too_short (power named) = false
buffer_too_short (reading named new) = false

-- the module that the event names is over 1; a tick names none
abbrev pub module_over1 : Event → Bool
module_over1 (call host named revision index request answer) = 1 <? named
module_over1 tick = false
module_over1 (power named) = 1 <? named
module_over1 (reading named new) = 1 <? named

-- a new reading's spare is over 100
abbrev pub spare_over100 : Event → Bool
spare_over100 (call host named revision index request answer) = false
spare_over100 tick = false
spare_over100 (power named) = false
spare_over100 (reading named new) = 100 <? new.spare

-- document 02, T-04: "a reading gives R2, R3 and R4 only", and T-09: R5 "for a power cycle or reading too"
abbrev pub reading_numbers : List Refusal
reading_numbers = R 2 ∷ R 5 ∷ R 3 ∷ R 4 ∷ []

-- some reading on some record is refused by it
pub record GivenByReading (refusal : Refusal) : Type 0 where
  pub found : Whole
  pub named : ℕ
  pub new : Reading
  pub refused : (reading_result found named new).reply.verdict ≡ Err refusal

-- Demand 1 of a reading: its checks decide; refused, it changes nothing; accepted, it is kept, the trips byte is renewed, and everything else stays. It writes no
-- answer.
pub record OfReading (w : Whole) (named : ℕ) (new : Reading) : Type 0 where
  pub judged : (reading_result w named new).reply.verdict ≡ verdict (reading_checks w named new)
  pub numbers : (refusal : Refusal) → (reading_result w named new).reply.verdict ≡ Err refusal → Among reading_numbers refusal
  pub leaves : (refusal : Refusal) → (reading_result w named new).reply.verdict ≡ Err refusal → (reading_result w named new).after ≡ w
  pub keeps : (reading_result w named new).reply.verdict ≡ Ok tt → (reading_result w named new).after ≡ kept w named new
  pub silent : ((reading_result w named new).reply.length ≡ 0) × ((reading_result w named new).answer ≡ [])

-- which R numbers an event may still give on a possible record: R1, for an answer buffer that is too short; R5, for a module over 1; R4, for a reading whose spare is
-- over 100
abbrev pub MayGive : (number : ℕ) → Event → Type 0
MayGive number event =
    ((number ≡ 1) × (buffer_too_short event ≡ true))
    ⊎ (((number ≡ 5) × (module_over1 event ≡ true)) ⊎ ((number ≡ 4) × (spare_over100 event ≡ true)))

-- Every event, a call, a tick, a power cycle or a reading, takes a possible record to a possible record and keeps the area's size; and it gives no other R number.
pub record OfEvent (w : Whole) (event : Event) : Type 0 where
  pub stays_possible : possible_cabinet (step w event).after.cabinet ≡ true
  pub keeps_size : length (step w event).after.area ≡ area_size
  pub no_other_R : (number : ℕ) → (step w event).reply.verdict ≡ Err (R number) → MayGive number event

-- Demand 1: any call with any bytes and any device record, and any reading; every number of the table is given by some call, and every number of a reading by some
-- reading; and a fresh cabinet's record is possible, so that what is said of events holds from there on.
pub record Demand1 : Type 0 where
  pub calls : (w : Whole) (named revision index : ℕ) (request answer : List ℕ) → OfCall w named revision index request answer
  pub each_given : (refusal : Refusal) → Numbered refusal → GivenBySome refusal
  pub readings : (w : Whole) (named : ℕ) (new : Reading) → OfReading w named new
  pub each_by_reading : (refusal : Refusal) → Among reading_numbers refusal → GivenByReading refusal
  pub events : (w : Whole) (event : Event) → possible_cabinet w.cabinet ≡ true → length w.area ≡ area_size → OfEvent w event
  pub fresh_possible : possible_cabinet fresh_cabinet ≡ true
