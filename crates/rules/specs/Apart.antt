-- Document 02, "T-09 Second module, one staging area", beside demand 3: an event of one module leaves the other's record; and "Two runs from fresh that differ only in
-- the other module's calls, readings and power cycles, and in which this module's Starts were answered alike, give this module the same answers throughout." Readings:
-- docs/DECISIONS.md, B31 to B40. docs/DEMAND-3.md walks through it.
-- Assumes nothing.
use Rattle.std.specs.Prelude.{ℕ, ◌≤◌}
use mathlib.Core.{Path.◌≡◌, Bool.{Bool, true, false, ◌&&◌}, List.{List, [], ◌∷◌, map}}
use Rattle.std.specs.Prelude.{length}
use Rattle.rules.specs.Tests.{◌=?◌}
use Rattle.rules.specs.Numbers.{area_size}
use Rattle.rules.specs.Record.{Whole, device_of}
use Rattle.rules.specs.Refusals.{verdict, tick_checks, event_checks}
use Rattle.rules.specs.Cabinet.{Event, call, tick, power, reading, tick_result, power_result, step}
use Rattle.rules.specs.History.{history_of, only}
use Rattle.rules.specs.Transfers.{machine, History}
use Rattle.rules.specs.Demand1.{Among}
use Rattle.rules.specs.Demand3.{fresh_with}
use Rattle.rules.specs.declared.{Refusal.Refusal, Refusal.TheVariants.R}
use Rattle.std.specs.Prelude.{Err}

-- whether an event reaches a module: a call, a power cycle or a reading that names it; a tick, which reaches both
abbrev pub reaches : (own : ℕ) → Event → Bool
reaches own (call host named revision index request answer) = named =? own
reaches own tick = true
reaches own (power named) = named =? own
reaches own (reading named new) = named =? own

-- whether it is a Start of the module: function 13, at whatever revision
abbrev pub start_of : (own : ℕ) → Event → Bool
start_of own (call host named revision index request answer) = named =? own && index =? 13
start_of own tick = false
start_of own (power named) = false
start_of own (reading named new) = false

-- of a history, what reached the module, each with its answer; and its Starts with theirs
abbrev pub reached_by : (own : ℕ) → History → History
reached_by own h = only (λ x. reaches own x.event) h

abbrev pub starts_of : (own : ℕ) → History → History
starts_of own h = only (λ x. start_of own x.event) h

abbrev pub events_in : History → List Event
events_in h = map (λ x. x.event) h

-- An event leaves the record of a module that it does not reach, from any record and any area.
abbrev pub OtherLeft : Type 0
OtherLeft =
    (own : ℕ) → own ≤ 1 → (w : Whole) (event : Event) → reaches own event ≡ false
    → device_of own (step w event).after.cabinet ≡ device_of own w.cabinet

-- Two runs from fresh, each with any area of the right size: where the same events reached the module, and its Starts were answered alike, the whole answer and so the
-- context too (B36), everything that reached it was answered alike. Besides its own Starts' answers the other module is nothing to it.
abbrev pub Unseen : Type 0
Unseen =
    (own : ℕ) → own ≤ 1 → (area another : List ℕ) → length area ≡ area_size → length another ≡ area_size → (events others : List Event)
    → events_in (reached_by own (history_of machine (fresh_with area) events)) ≡ events_in (reached_by own (history_of machine (fresh_with another) others))
    → starts_of own (history_of machine (fresh_with area) events) ≡ starts_of own (history_of machine (fresh_with another) others)
    → reached_by own (history_of machine (fresh_with area) events) ≡ reached_by own (history_of machine (fresh_with another) others)

pub record RequestT09 : Type 0 where
  pub other_left : OtherLeft
  pub unseen : Unseen
  -- "module over 1 is R5, before R3, for a power cycle or reading too": their checks decide of a tick and of a power cycle, and no other number comes of them; a
  -- reading's are demand 1's
  pub ticks_judged : (w : Whole) → (tick_result w).reply.verdict ≡ verdict (tick_checks w)
  pub power_judged : (w : Whole) (named : ℕ) → (power_result w named).reply.verdict ≡ verdict (event_checks w named)
  pub of_ticks : (w : Whole) (refusal : Refusal) → (tick_result w).reply.verdict ≡ Err refusal → Among (R 2 ∷ R 3 ∷ []) refusal
  pub of_power : (w : Whole) (named : ℕ) (refusal : Refusal) → (power_result w named).reply.verdict ≡ Err refusal → Among (R 2 ∷ R 5 ∷ R 3 ∷ []) refusal
