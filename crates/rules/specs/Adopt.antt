-- Document 02, T-03, T-08 and T-09, and the records that were kept before them. Before T-03 one in Failed has no reason, before T-08 none has a trips byte: it is zero.
-- Before T-09 it was one module's, whose current context was the last one given out. Such a record is taken over, once (docs/DECISIONS.md, r).
-- Assumes nothing.
use Rattle.std.specs.Prelude.{ℕ}
use mathlib.Core.{Path.◌≡◌, Logic.◌↔◌, Bool.{Bool, true, false, ◌&&◌, ◌||◌}}
use Rattle.std.specs.Prelude.{if◌then◌else◌}
use Rattle.rules.specs.Tests.{◌=?◌}
use Rattle.rules.specs.With.{◌with_phase◌, ◌with_received◌, ◌with_transfer◌}
use Rattle.rules.specs.Record.{current, possible_current, fresh, possible, possible_parts, possible_numbers, possible_security, possible_thresholds, possible_cabinet, renewed}
use Rattle.rules.specs.declared.{Phase.TheVariants.{Idle, Failed}, Device.Device, Cabinet.Cabinet, Reading.Reading}

-- the contexts given out when the module was alone: its current context was the last one
abbrev pub given_alone : Device → ℕ
given_alone d = current d.transfer

-- possible as T-08 left it, and as T-04 did
abbrev pub possible_alone : Device → Bool
possible_alone d = possible (given_alone d) d

abbrev pub possible_parts_alone : Device → Bool
possible_parts_alone d = possible_parts (given_alone d) d

-- no reading kept: T-04 came after T-03
abbrev pub no_reading : Reading → Bool
no_reading r = r.spare =? 0 && r.media =? 0 && r.controller =? 0

-- possible before T-03: as document 01 says, with no fault kept and no reading
unfoldable pub possible_before : Device → Bool
possible_before d =
    (possible_current (given_alone d) d.transfer && possible_numbers d.transfer && (d.transfer.reason =? 0 && d.transfer.faulty =? 0))
    && possible_security d.security
    && possible_thresholds d.thresholds
    && no_reading d.reading

-- kept before T-08, whose byte was zero: possible as T-04 left it, or as before T-03
unfoldable pub kept_before : Device → Bool
kept_before d = d.trips =? 0 && (possible_parts_alone d || possible_before d)

abbrev pub adoptable : Device → Bool
adoptable d = possible_alone d || kept_before d

-- Idle with received 0, and nothing else changes
abbrev pub idle_again : Device → Device
idle_again d = d with_transfer (d.transfer with_phase Idle with_received 0)

-- One that is possible stays as it is. The trips byte of any other is renewed; and where its parts are not possible, it is Idle again too.
abbrev pub adopted : Device → Device
adopted d = if possible_alone d then d else if possible_parts_alone d then renewed d else renewed (idle_again d)

-- the cabinet that takes it over: as module 0, with its number as the shared one, and module 1 fresh
abbrev pub adopted_cabinet : Device → Cabinet
adopted_cabinet d = record { contexts = given_alone d; first = adopted d; second = fresh }

-- What is taken over is possible. Of the records that were possible before T-03, those in Failed alone have parts that are not possible. One that is possible stays
-- as it is; of any other with possible parts the trips byte alone is renewed, and any other is Idle with received 0 besides. And no context is given out again: as
-- many are given out as before, and module 0's current context is the last of them.
pub record Adopting : Type 0 where
  pub possible_then : (d : Device) → adoptable d ≡ true → possible_cabinet (adopted_cabinet d) ≡ true
  pub failed_alone : (d : Device) → possible_before d ≡ true → (possible_parts_alone d ≡ false) ↔ (d.transfer.phase ≡ Failed)
  pub as_it_is : (d : Device) → possible_alone d ≡ true → adopted d ≡ d
  pub byte_renewed : (d : Device) → possible_alone d ≡ false → possible_parts_alone d ≡ true → adopted d ≡ renewed d
  pub else_idle : (d : Device) → possible_parts_alone d ≡ false → adopted d ≡ renewed (idle_again d)
  pub contexts_kept : (d : Device) → ((adopted_cabinet d).contexts ≡ current d.transfer) × (current (adopted_cabinet d).first.transfer ≡ current d.transfer)
  pub second_fresh : (d : Device) → (adopted_cabinet d).second ≡ fresh
