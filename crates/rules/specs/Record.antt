-- Document 01, "The device record": fresh, live, possible. Document 02, T-09: "The new cabinet has modules 0 and 1 sharing the staging area and the context numbers."
-- The records themselves are declared in src/lib.rt. Here a field is any number; the widths declared there keep the code's in range: contexts at most 4,294,967,295,
-- a passphrase of 32 bytes.
-- Assumes nothing.
use Rattle.std.specs.Prelude.{ℕ}
use mathlib.Core.{Bool.{Bool, false, not, ◌&&◌, ◌||◌}, List.List}
use Rattle.std.specs.Prelude.{if◌then◌else◌}
use Rattle.rules.specs.Tests.{◌≤?◌, ◌<?◌, ◌=?◌, ◌implies◌, ◌unless◌}
use Rattle.rules.specs.Bytes.{zeros, zeros?}
use Rattle.rules.specs.Numbers.{area_size, verification, attempt_limit}
use Rattle.rules.specs.With.{◌with_trips◌, ◌with_contexts◌}
use Rattle.rules.specs.Health.{trips}
use Rattle.rules.specs.declared.{Phase.Phase, Phase.TheVariants.{Idle, Receiving, Verifying, Staged, Failed}, Transfer.Transfer, Thresholds.Thresholds}
use Rattle.rules.specs.declared.{Security.Security, Reading.Reading, Device.Device, Cabinet.Cabinet}

-- "Phase (Idle, Receiving, Verifying, Staged, Failed)", numbered in that order, so that two phases can be compared
abbrev pub phase_number : Phase → ℕ
phase_number Idle = 0
phase_number Receiving = 1
phase_number Verifying = 2
phase_number Staged = 3
phase_number Failed = 4

infix 40 ◌is◌
abbrev pub ◌is◌ : Phase → Phase → Bool
p is q = phase_number p =? phase_number q

-- "Fresh: Idle, running version 1, everything else zero or off." Document 02, T-04: "Fresh readings are zero"; no alarm is enabled,
-- and so the trips byte is zero too.
abbrev pub fresh : Device
fresh =
    record {
      transfer = record { phase = Idle; current = 0; received = 0; ticks = 0; running = 1; staged = 0; reason = 0; faulty = 0 };
      thresholds = record { enable = 0; spare = 0; media = 0; controller = 0 };
      security = record { enabled = false; locked = false; frozen = false; attempts = 0; passphrase = zeros 32 };
      reading = record { spare = 0; media = 0; controller = 0 };
      trips = 0;
    }

-- document 02, T-09: "Each module keeps its own current context"; this replaces document 01's "The current context is the last one given out". What a step doesn't
-- name stays: in Idle it is kept (docs/DECISIONS.md, B32).
abbrev pub current : Transfer → ℕ
current t = t.current

-- "[The current context] is live in every phase but Idle."
abbrev pub live : Transfer → ℕ → Bool
live t context = not (t.phase is Idle) && context =? current t

-- whether a module has the staging area: it is "Receiving or Verifying"
abbrev pub has_area : Transfer → Bool
has_area t = t.phase is Receiving || t.phase is Verifying

-- document 02, T-03: "The tick keeps reason and record number in Failed, a possible record has 1 to 5 and 0 to 127 there and zeros elsewhere"
abbrev pub possible_fault : Transfer → Bool
possible_fault t =
    (t.phase is Failed implies (1 ≤? t.reason && t.reason ≤? 5 && t.faulty ≤? 127))
    && ((t.reason =? 0 && t.faulty =? 0) unless t.phase is Failed)

-- document 02, T-09: "a possible record has it [its own current context] at most the shared number, at least 1 outside Idle"
abbrev pub possible_current : (given : ℕ) → Transfer → Bool
possible_current given t = current t ≤? given && (1 ≤? current t unless t.phase is Idle)

-- "A record is possible if: .. received is at most 16,384, and 0 in Idle; ticks left is 1 to 8 in Verifying and 0
-- elsewhere; staged version is 0 outside Staged;"
abbrev pub possible_numbers : Transfer → Bool
possible_numbers t =
    (t.received ≤? area_size)
    && (t.phase is Idle implies t.received =? 0)
    && (t.phase is Verifying implies (1 ≤? t.ticks && t.ticks ≤? verification))
    && (t.ticks =? 0 unless t.phase is Verifying)
    && (t.staged =? 0 unless t.phase is Staged)

unfoldable pub possible_transfer : (given : ℕ) → Transfer → Bool
possible_transfer given t = possible_current given t && possible_numbers t && possible_fault t

-- "locked only if enabled; passphrase all zero if not enabled; attempts at most 10;"
unfoldable pub possible_security : Security → Bool
possible_security s =
    (s.locked implies s.enabled)
    && (zeros? s.passphrase unless s.enabled)
    && (s.attempts ≤? attempt_limit)

-- "only enable bits 0 to 2 set; spare threshold at most 100."
unfoldable pub possible_thresholds : Thresholds → Bool
possible_thresholds h = (h.enable <? 8) && (h.spare ≤? 100)

-- document 02, T-04: "R3 covers a record whose reading has spare over 100"
unfoldable pub possible_reading : Reading → Bool
possible_reading r = r.spare ≤? 100

-- the four parts, each possible by itself: all that was asked before T-08
unfoldable pub possible_parts : (given : ℕ) → Device → Bool
possible_parts given d =
    possible_transfer given d.transfer && possible_security d.security && possible_thresholds d.thresholds && possible_reading d.reading

-- document 02, T-08: "R3 now covers a record whose stored byte disagrees with its reading and thresholds."
unfoldable pub possible_trips : Device → Bool
possible_trips d = d.trips =? trips d.thresholds d.reading

-- a module's device record, given the shared number of contexts
unfoldable pub possible : (given : ℕ) → Device → Bool
possible given d = possible_parts given d && possible_trips d

-- the record with the byte that its thresholds and its reading give: "Every operation keeps it true."
abbrev pub renewed : Device → Device
renewed d = d with_trips (trips d.thresholds d.reading)

-- the cabinet's record, module by module, and T-09's "at most one module Receiving or Verifying"
unfoldable pub possible_cabinet : Cabinet → Bool
possible_cabinet c =
    possible c.contexts c.first
    && possible c.contexts c.second
    && not (has_area c.first.transfer && has_area c.second.transfer)

-- "In demand 3 both modules begin fresh": no context is given out yet
abbrev pub fresh_cabinet : Cabinet
fresh_cabinet = record { contexts = 0; first = fresh; second = fresh }

-- The cabinet's whole state, its record and the staging area: what an event finds, and what it leaves.
pub record Whole : Type 0 where
  pub cabinet : Cabinet
  pub area : List ℕ

-- the two as one: the code is lent the area beside the record
abbrev pub whole_of : Cabinet → (area : List ℕ) → Whole
whole_of c area = record { cabinet = c; area = area }

-- One module as a call finds it: its device record; the staging area; the shared number of contexts given out; and whether the area is taken by the other module.
pub record Module : Type 0 where
  pub device : Device
  pub area : List ℕ
  pub given : ℕ
  pub taken : Bool

abbrev pub module_of : Device → (area : List ℕ) (given : ℕ) (taken : Bool) → Module
module_of d area given taken = record { device = d; area = area; given = given; taken = taken }

infixl 10 ◌with_device◌ ◌with_area◌ ◌with_given◌
abbrev pub ◌with_device◌ : Module → Device → Module
m with_device d = module_of d m.area m.given m.taken

abbrev pub ◌with_area◌ : Module → List ℕ → Module
m with_area area = module_of m.device area m.given m.taken

abbrev pub ◌with_given◌ : Module → ℕ → Module
m with_given given = module_of m.device m.area given m.taken

-- module 0's or module 1's record, and the other's. Every number but 0 reads as 1 here: a module over 1 is R5 before anything else is asked of it.
abbrev pub device_of : (named : ℕ) → Cabinet → Device
device_of named c = if named =? 0 then c.first else c.second

abbrev pub other_of : (named : ℕ) → Cabinet → Device
other_of named c = if named =? 0 then c.second else c.first

-- the cabinet with this record for the module; the other module's stays
abbrev pub with_device_at : (named : ℕ) → Device → Cabinet → Cabinet
with_device_at named d c =
    record {
      contexts = c.contexts;
      first = if named =? 0 then d else c.first;
      second = if named =? 0 then c.second else d;
    }

-- the module of this number, as a call finds it
abbrev pub standing : (named : ℕ) → Whole → Module
standing named w =
    module_of (device_of named w.cabinet) w.area w.cabinet.contexts (has_area (other_of named w.cabinet).transfer)

-- the cabinet with the module in its place, and with its area and its number of contexts
abbrev pub in_place : (named : ℕ) → Module → Whole → Whole
in_place named m w = whole_of (with_device_at named m.device w.cabinet with_contexts m.given) m.area
