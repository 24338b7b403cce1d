-- The turns in which a program goes through its logs: what comes after what, and how the records are numbered.
-- Assumes nothing.
use mathlib.Core.{Path.◌≡◌, Bool.{Bool, not}}
use Rattle.std.specs.Prelude.{ℕ, ◌+◌, ◌/◌, ◌%◌, ◌<◌, ◌⊎◌}
use Rattle.std.specs.Prelude.{if◌then◌else◌, is_some, Option}
use Rattle.std.specs.declared.option.Option.TheVariants.{None, Some}
use Rattle.rules.specs.Tests.{◌=?◌}
use Rattle.rules.specs.Log.{record_size}
pub use Rattle.program_logs.specs.Standing.{part_size}
use Rattle.program_logs.specs.declared.{Turn.Turn, Turn.TheVariants.{Beginning, Part, End, Unreadable, Nothing}, Logs.Logs}

-- A part that fills the buffer is followed by a part. Any other is the last, and where reading failed behind it the log has no end.
abbrev pub after_part : (have : ℕ) (failed : Bool) → Turn
after_part have failed = if have =? part_size then Part else if failed then Unreadable else End (not (have % record_size =? 0))

-- Where a log is left, the next one begins, numbered from 0, or cannot be read, or there is none.
abbrev pub Left : Turn → (number : ℕ) → Type 0
Left Beginning number = number ≡ 0
Left Part number = ⊥
Left (End short) number = ⊥
Left Unreadable number = Unit {0}
Left Nothing number = Unit {0}

-- what comes after a turn; the number is carried on from part to part
abbrev pub Next : Turn → Logs → Logs → Type 0
Next Beginning logs r = (r.turn ≡ Part) × (r.number ≡ logs.number)
Next Part logs r = (r.turn ≡ after_part logs.have (is_some logs.failure)) × (r.number ≡ logs.number + logs.have / record_size)
Next (End short) logs r = Left r.turn r.number
Next Unreadable logs r = Left r.turn r.number
Next Nothing logs r = Left r.turn r.number

-- the turns behind which a log is left: there may be no other
abbrev pub Leaves : Turn → Type 0
Leaves Beginning = ⊥
Leaves Part = ⊥
Leaves (End short) = Unit {0}
Leaves Unreadable = Unit {0}
Leaves Nothing = Unit {0}

-- the next turn, with fewer left; there is none only after the last turn of all, and after the last log
abbrev pub NextOrNone : Logs → Option Logs → Type 0
NextOrNone logs None = (logs.left ≡ 0) ⊎ Leaves logs.turn
NextOrNone logs (Some r) = (r.left < logs.left) × Next logs.turn logs r
