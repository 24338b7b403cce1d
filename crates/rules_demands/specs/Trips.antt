-- Document 02, T-08, written out: which records are possible, what a cabinet with another byte gets, that every event leaves the byte true in both modules, and what
-- function 1 answers, on a possible record and after any events from fresh; and by examples.
-- Assumes nothing.
use Rattle.std.specs.Prelude.{ℕ, ◌≤◌}
use mathlib.Core.{Path.◌≡◌, Bool.true, List.{List, [], ◌∷◌, ◌++◌, map}}
use Rattle.std.specs.Prelude.{length, drop, replicate}
use Rattle.rules.specs.Record.{fresh, possible, possible_parts, possible_cabinet, Whole, whole_of, device_of}
use Rattle.rules.specs.Health.{trips, health_answer}
use Rattle.rules.specs.Cabinet.{Event, call, tick, power, reading, step}
use Rattle.rules.specs.declared.{Refusal.TheVariants.R, Reading.Reading, Device.Device}
use Rattle.rules_demands.specs.Health.{measured}
use Rattle.std.specs.Prelude.{Ok, Err}

-- two fresh modules, with this area
abbrev pub both_fresh : (area : List ℕ) → Whole
both_fresh area = whole_of (record { contexts = 0; first = fresh; second = fresh }) area

-- a cabinet that these events leave
abbrev pub left : Whole → List Event → Whole
left w [] = w
left w (event ∷ events) = left (step w event).after events

-- R3, and nothing changes: to every call that has room for its answer, to a tick, a power cycle and a reading, of either module
pub record AllR3 (w : Whole) : Type 0 where
  pub to_calls : (host named revision index : ℕ) (request buffer : List ℕ) → named ≤ 1 → 132 ≤ length buffer
      → ((step w (call host named revision index request buffer)).reply.verdict ≡ Err (R 3)) × ((step w (call host named revision index request buffer)).after ≡ w)
  pub to_ticks : ((step w tick).reply.verdict ≡ Err (R 3)) × ((step w tick).after ≡ w)
  pub to_power : (named : ℕ) → named ≤ 1 → ((step w (power named)).reply.verdict ≡ Err (R 3)) × ((step w (power named)).after ≡ w)
  pub to_readings : (named : ℕ) (new : Reading) → named ≤ 1 → ((step w (reading named new)).reply.verdict ≡ Err (R 3)) × ((step w (reading named new)).after ≡ w)

pub record TripsWrittenOut : Type 0 where
  -- possible asks for the byte that thresholds and reading give, and for what it asked before, and for nothing else
  pub possible_only : (given : ℕ) (d : Device) → possible given d ≡ true → (possible_parts given d ≡ true) × (d.trips ≡ trips d.thresholds d.reading)
  pub possible_where : (given : ℕ) (d : Device) → possible_parts given d ≡ true → d.trips ≡ trips d.thresholds d.reading → possible given d ≡ true
  -- of either module
  pub wrong_byte : (w : Whole) (named : ℕ) → length w.area ≡ 16384
      → ((device_of named w.cabinet).trips ≡ trips (device_of named w.cabinet).thresholds (device_of named w.cabinet).reading → ⊥)
      → AllR3 w
  pub true_after_in_0 : (w : Whole) (event : Event) → possible_cabinet w.cabinet ≡ true → length w.area ≡ 16384
      → (step w event).after.cabinet.first.trips ≡ trips (step w event).after.cabinet.first.thresholds (step w event).after.cabinet.first.reading
  pub true_after_in_1 : (w : Whole) (event : Event) → possible_cabinet w.cabinet ≡ true → length w.area ≡ 16384
      → (step w event).after.cabinet.second.trips ≡ trips (step w event).after.cabinet.second.thresholds (step w event).after.cabinet.second.reading
  -- an accepted call of function 1 on a possible record, and after any events from two fresh modules: the byte is the one that thresholds and reading then give
  pub answered : (w : Whole) (host named revision : ℕ) (request buffer : List ℕ) → possible_cabinet w.cabinet ≡ true
      → (step w (call host named revision 1 request buffer)).reply.verdict ≡ Ok tt
      → (step w (call host named revision 1 request buffer)).answer
      ≡ 0 ∷ 0 ∷ 0 ∷ 0 ∷ health_answer (device_of named w.cabinet).thresholds (device_of named w.cabinet).reading ++ drop 132 buffer
  pub polled : (area : List ℕ) → length area ≡ 16384 → (events : List Event) (host named revision : ℕ) (request buffer : List ℕ)
      → (step (left (both_fresh area) events) (call host named revision 1 request buffer)).reply.verdict ≡ Ok tt
      → (step (left (both_fresh area) events) (call host named revision 1 request buffer)).answer
      ≡ 0 ∷ 0 ∷ 0 ∷ 0 ∷ health_answer (device_of named (left (both_fresh area) events).cabinet).thresholds (device_of named (left (both_fresh area) events).cabinet).reading ++ drop 132 buffer

-- the byte of module 0 after each of these, from fresh: alarms on with spare 20, media 0500h and controller 8001h; readings on either side of them; alarms off; a
-- refused Set Threshold and a refused reading; a power cycle and a tick; and what module 1 gets
abbrev pub set : (named enable spare : ℕ) → Event
set named enable spare = call 1 named 2 17 (enable ∷ 0 ∷ spare ∷ 0x00 ∷ 0x05 ∷ 0x01 ∷ 0x80 ∷ []) (replicate 132 0)

abbrev pub byte_after : List Event → ℕ
byte_after events = (left (both_fresh (replicate 16384 0)) events).cabinet.first.trips

-- module 0 with all three tripped, and then one event more
abbrev pub tripped_then : Event → ℕ
tripped_then event = byte_after (set 0 7 20 ∷ reading 0 (measured 19 0x0501 0x8000) ∷ event ∷ [])

pub record TripsHeld : Type 0 where
  pub none_yet : byte_after [] ≡ 0
  pub by_sets : map (λ enable. byte_after (reading 0 (measured 19 0x0501 0x8000) ∷ set 0 enable 20 ∷ [])) (0 ∷ 1 ∷ 2 ∷ 4 ∷ 7 ∷ []) ≡ 0 ∷ 1 ∷ 2 ∷ 4 ∷ 7 ∷ []
  pub by_readings : map (λ spare. byte_after (set 0 7 20 ∷ reading 0 (measured spare 0x0500 0x8001) ∷ [])) (19 ∷ 20 ∷ 101 ∷ []) ≡ 1 ∷ 0 ∷ 5 ∷ []
  pub off_again : tripped_then (set 0 0 20) ≡ 0
  pub left_alone : map tripped_then (set 0 0 101 ∷ set 0 8 20 ∷ reading 0 (measured 101 0 0) ∷ power 0 ∷ tick ∷ []) ≡ 7 ∷ 7 ∷ 7 ∷ 7 ∷ 7 ∷ []
  pub not_by_the_other : map tripped_then (set 1 0 20 ∷ reading 1 (measured 100 0 0x8002) ∷ power 1 ∷ []) ≡ 7 ∷ 7 ∷ 7 ∷ []
