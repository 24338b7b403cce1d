-- Document 02, "T-08 Keep the trips byte". The byte is a field of a module's record: `renewed` (Record.antt), `trips_after`, `device_keeping` and `accepted_answer`
-- (Module.antt) write and read it; here is what that comes to, of both modules (T-09). Readings: docs/DECISIONS.md, B29, B30, B65.
-- Assumes nothing.
use mathlib.Core.{Path.◌≡◌, Logic.◌↔◌, Bool.true, List.{List, [], ◌∷◌, ◌++◌}}
use Rattle.std.specs.Prelude.{ℕ, length}
use Rattle.rules.specs.Bytes.{le}
use Rattle.rules.specs.Numbers.{area_size}
use Rattle.rules.specs.Record.{possible, possible_parts, possible_cabinet, Whole, Module, standing}
use Rattle.rules.specs.Refusals.{status_bytes}
use Rattle.rules.specs.Table.{mask}
use Rattle.rules.specs.Thresholds.{threshold_answer}
use Rattle.rules.specs.Transfer.{transfer_answer}
use Rattle.rules.specs.Security.{security_answer}
use Rattle.rules.specs.Health.{trips, health_answer}
use Rattle.rules.specs.Module.{Call, OnMask, OnHealth, OnThresholds, OnTransfer, OnSecurity, OnNothing, accepted_answer}
use Rattle.rules.specs.Cabinet.{Event, step}
use Rattle.rules.specs.Demand3.{fresh_with}
use Rattle.rules.specs.declared.Device.{Device}

-- the byte that a record keeps is the one that its thresholds and its reading give
abbrev pub ByteTrue : Device → Type 0
ByteTrue d = d.trips ≡ trips d.thresholds d.reading

-- the cabinet after these events
abbrev pub after : List Event → Whole → Whole
after [] w = w
after (event ∷ events) w = after events (step w event).after

-- what an accepted call answered before, line by line as T-04 left it: function 1 computed the byte at every call, and no other answer carries it
abbrev pub answer_before : Module → Call → List ℕ
answer_before m (OnMask revision) = le 4 (mask revision)
answer_before m OnHealth = status_bytes 0 0 ++ health_answer m.device.thresholds m.device.reading
answer_before m (OnThresholds asked) = status_bytes 0 0 ++ threshold_answer m.device.thresholds asked
answer_before m (OnTransfer asked) = status_bytes 0 0 ++ transfer_answer m.device.transfer m.given asked
answer_before m (OnSecurity asked) = status_bytes 0 0 ++ security_answer m.device.security asked
answer_before m OnNothing = status_bytes 0 0

pub record RequestT08 : Type 0 where
  -- "R3 now covers a record whose stored byte disagrees with its reading and thresholds", beside what it covered before
  pub asked_besides : (given : ℕ) (d : Device) → (possible given d ≡ true) ↔ ((possible_parts given d ≡ true) × ByteTrue d)
  -- "Every operation keeps it true.": every event, in both modules
  pub kept_true : (w : Whole) (event : Event) → possible_cabinet w.cabinet ≡ true → length w.area ≡ area_size
      → ByteTrue (step w event).after.cabinet.first × ByteTrue (step w event).after.cabinet.second
  -- "Function 1's answers are the same as before.": on every possible record,
  pub same_answers : (m : Module) (asked : Call) → possible m.given m.device ≡ true → accepted_answer m asked ≡ answer_before m asked
  -- and so after any events from a fresh cabinet, of either module
  pub same_from_fresh : (area : List ℕ) → length area ≡ area_size → (events : List Event) (named : ℕ) (asked : Call)
      → accepted_answer (standing named (after events (fresh_with area))) asked ≡ answer_before (standing named (after events (fresh_with area))) asked
