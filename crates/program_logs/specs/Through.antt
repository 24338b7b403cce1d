-- A program that goes through its logs: at which turns it does its work, and where it stops.
-- Assumes nothing.
use mathlib.Core.{Path.◌≡◌}
use Rattle.std.specs.Borrow.{Bor}
use Rattle.std.specs.Prelude.{ℕ, List, length, Result, Ok, Err, is_ok, IsTrue, if◌then◌else◌}
use Rattle.std.specs.declared.option.Option.TheVariants.{None, Some}
use Rattle.program_files.specs.declared.{Unwritten.Unwritten, Unwritten.TheVariants.{Closed}}
use Rattle.program_logs.specs.declared.{Turn.TheVariants.{Nothing}, Logs.Logs}
use Rattle.program_logs.specs.Turns.{NextOrNone}

-- where a program stands once its work at a turn was shown or not: where it was, or at no log, for one whose text could not be written is left
abbrev pub Told : Logs → Result Unit Unwritten → Logs → Type 0
Told logs shown r = (r.left ≡ logs.left) × ((r.turn ≡ (if is_ok shown then logs.turn else Nothing)) × (IsTrue (is_ok shown) → r ≡ logs))

-- The work is done once at each turn, one turn after another, with the name of the turn's log, until no turn is left, or nobody reads any more what it writes.
pub data Through {W : Type 0} (Did : W → Logs → Bor (List ℕ) → Bor (List ℕ) → Result Unit Unwritten → W → Type 0) : W → Logs → Result Unit Unwritten → Type 0 where
  over : {work : W} {logs : Logs} → NextOrNone logs None → Through Did work logs (Ok tt)
  closed : {work after : W} {logs next : Logs} {buffer name : Bor (List ℕ)} {shown : Result Unit Unwritten} → NextOrNone logs (Some next) → length name.now ≡ next.size
      → Did work next buffer name shown after → shown ≡ Err Closed → Through Did work logs shown
  goes_on : {work after : W} {logs next told : Logs} {buffer name : Bor (List ℕ)} {shown result : Result Unit Unwritten} → NextOrNone logs (Some next) → length name.now ≡ next.size
      → Did work next buffer name shown after → (shown ≡ Err Closed → ⊥) → Told next shown told → Through Did after told result → Through Did work logs result
