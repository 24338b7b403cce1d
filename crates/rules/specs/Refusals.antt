-- Document 01, "Refusal numbers, and what each leaves". An event's checks stand in the page's order, and the first whose test is true refuses.
-- Assumes nothing.
use Rattle.std.specs.Prelude.{ℕ, ◌+◌, ◌-◌}
use mathlib.Core.{Bool.{Bool, true, false, not}, List.{List, [], ◌∷◌, ◌++◌}}
use Rattle.std.specs.Prelude.{length, Result, Ok, Err}
use Rattle.std.specs.Prelude.{if◌then◌else◌}
use Rattle.rules.specs.Tests.{◌=?◌, ◌<?◌}
use Rattle.rules.specs.Bytes.{le, zeros, splice}
use Rattle.rules.specs.Numbers.{area_size, answer_room}
use Rattle.rules.specs.With.{◌with_attempts◌, ◌with_security◌}
use Rattle.rules.specs.Record.{possible_cabinet, Whole, device_of, with_device_at}
use Rattle.rules.specs.declared.{Refusal.Refusal, Refusal.TheVariants.R, Device.Device, Cabinet.Cabinet, Reading.Reading}

-- a check: where the test is true, this refusal is given
infix 20 ◌gives◌
pub data Check : Type 0 where
  ◌gives◌ : (test : Bool) (refusal : Refusal) → Check

-- what comes of an event's checks, the library's `Result`: `Ok tt` where it is accepted, `Err refusal` where it is refused
abbrev pub Verdict : Type 0
Verdict = Result Unit Refusal

-- the first check whose test is true decides; where none is, the event is accepted
unfoldable pub verdict : List Check → Verdict
verdict [] = Ok tt
verdict ((test gives refusal) ∷ checks) = if test then Err refusal else verdict checks

-- "R1 | answer buffer shorter than 64"; document 02, T-04: "R1 now reads 132"
abbrev pub R1Check : List ℕ → Check
R1Check answer = length answer <? answer_room gives R 1

-- "R2 | staging area not exactly 16,384 bytes"
abbrev pub R2Check : List ℕ → Check
R2Check area = not (length area =? area_size) gives R 2

-- "R3 | record not possible": document 02, T-09, makes it the whole cabinet's (docs/DECISIONS.md, B31)
abbrev pub R3Check : Cabinet → Check
R3Check c = not (possible_cabinet c) gives R 3

-- document 02, T-04: "spare over 100 in a new reading is R4"
abbrev pub R4Check : Reading → Check
R4Check new = 100 <? new.spare gives R 4

-- document 02, T-09: "module over 1 is R5"
abbrev pub R5Check : (named : ℕ) → Check
R5Check named = 1 <? named gives R 5

-- "Ticks .. can give R2 and R3 only." A tick names no module.
abbrev pub tick_checks : Whole → List Check
tick_checks w = R2Check w.area ∷ R3Check w.cabinet ∷ []

-- Every other event names its module, and makes these three: "R5, before R3, for a power cycle or reading too"
abbrev pub event_checks : Whole → (named : ℕ) → List Check
event_checks w named = R2Check w.area ∷ R5Check named ∷ R3Check w.cabinet ∷ []

-- "A call is refused if it gives an R number or a nonzero status; every other call is accepted, function 0 among them."
abbrev pub refused? : Verdict → Bool
refused? (Ok tt) = false
refused? (Err refusal) = true

-- "Every other answer begins with a 2-byte status and a 2-byte extended number (0 unless status is 7), but for function 0."
abbrev pub status_bytes : (status ext : ℕ) → List ℕ
status_bytes status ext = le 2 status ++ le 2 ext

-- the column "Answer bytes" for a status: 4 for status 1, else the function's own length, which is the column's 12 for 6 (Query), 8 for 8 (Start) and 4 for
-- 10 and 11 (20 to 23)
abbrev pub status_length : (status function_length : ℕ) → ℕ
status_length status n = if status =? 1 then 4 else n

-- "On a nonzero status the rest of the function's answer length is zero."
abbrev pub status_answer : (status ext function_length : ℕ) → List ℕ
status_answer status ext n = status_bytes status ext ++ zeros (status_length status n - 4)

-- "Answer buffer bytes past that length stay as they came."
abbrev pub answer_after : (bytes answer : List ℕ) → List ℕ
answer_after bytes answer = splice 0 bytes answer

-- "Every refusal leaves record and area unchanged; status 11 alone adds one to attempts."
abbrev pub one_attempt_more : Device → Device
one_attempt_more d = d with_security (d.security with_attempts (d.security.attempts + 1))

-- the record that a status leaves to a call of this module
abbrev pub record_left : (status named : ℕ) → Cabinet → Cabinet
record_left status named c = if status =? 11 then with_device_at named (one_attempt_more (device_of named c)) c else c
