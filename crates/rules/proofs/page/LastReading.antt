-- Document 02, T-04: "the device record keeps the last one", over every event, of each module.
-- Assumes nothing.
use Prim.Native.Nat.{ℕ, ◌≤◌}
use mathlib.Core.{Path.{◌≡◌, refl, ap, ◌∙◌}, Bool.{Bool, true, false, not}, List.List}
use Rattle.std.specs.Prelude.{if◌then◌else◌}
use Rattle.rules.specs.{Tests.{◌=?◌}, Record.{Whole, Module, device_of, with_device_at, standing}, Refusals.{verdict, tick_checks, event_checks, one_attempt_more}, Table.row_of, Beside.{last_reading, LastKept}}
use Rattle.rules.specs.Module.{Call, OnMask, OnHealth, OnThresholds, OnTransfer, OnSecurity, OnNothing, call_in, change, device_powered, device_keeping}
use Rattle.rules.specs.Cabinet.{call, tick, power, reading, outcome, ticked, powered, kept, happened, call_checks, reading_checks, call_result, tick_result, power_result, reading_result}
use Rattle.rules.specs.{declared.Refusal.TheVariants.{R, Status}, declared.Device.Device, declared.Cabinet.Cabinet, declared.Reading.Reading}
use Rattle.rules.proofs.{page.Passed.passed, page.Through.mine_named}
use Rattle.rules.specs.Refusals.{Verdict}
use Rattle.std.specs.Prelude.{Ok, Err}

-- a record in a module's place: where it has that module's reading, each module has its own still
in_place : (o z : Bool) (d first second : Device) → d.reading ≡ (if z then first else second).reading
    → (if o then (if z then d else first) else (if z then second else d)).reading ≡ (if o then first else second).reading
in_place true true d first second e = e
in_place true false d first second e = refl
in_place false true d first second e = refl
in_place false false d first second e = e

-- a status leaves the reading, whether it counts an attempt or not
left_reading : (missed : Bool) (own named : ℕ) (c : Cabinet)
    → (device_of own (if missed then with_device_at named (one_attempt_more (device_of named c)) c else c)).reading ≡ (device_of own c).reading
left_reading true own named c = in_place (own =? 0) (named =? 0) (one_attempt_more (device_of named c)) c.first c.second refl
left_reading false own named c = refl

-- an accepted call leaves its module's
change_reading : (m : Module) (c : Call) → (change m c).device.reading ≡ m.device.reading
change_reading m (OnMask revision) = refl
change_reading m OnHealth = refl
change_reading m (OnThresholds x) = refl
change_reading m (OnTransfer x) = refl
change_reading m (OnSecurity x) = refl
change_reading m OnNothing = refl

outcome_reading : (v : Verdict) (own : ℕ) (w : Whole) (named : ℕ) (c : Call) (n : ℕ) (answer : List ℕ)
    → (device_of own (outcome v w named c n answer).after.cabinet).reading ≡ (device_of own w.cabinet).reading
outcome_reading (Ok tt) own w named c n answer =
    in_place (own =? 0) (named =? 0) (change (standing named w) c).device w.cabinet.first w.cabinet.second (change_reading (standing named w) c)
outcome_reading (Err (R number)) own w named c n answer = refl
outcome_reading (Err (Status status ext)) own w named c n answer = left_reading (status =? 11) own named w.cabinet

-- so do a tick and a power cycle
happened_reading : (v : Verdict) (own : ℕ) (changed was : Whole) → (device_of own changed.cabinet).reading ≡ (device_of own was.cabinet).reading
    → (device_of own (happened v changed was).after.cabinet).reading ≡ (device_of own was.cabinet).reading
happened_reading (Ok tt) own changed was e = e
happened_reading (Err refusal) own changed was e = refl

ticked_reading : (o : Bool) (w : Whole)
    → (if o then (ticked w).cabinet.first else (ticked w).cabinet.second).reading ≡ (if o then w.cabinet.first else w.cabinet.second).reading
ticked_reading true w = refl
ticked_reading false w = refl

-- a reading that is kept is its module's, and no other's
kept_there : (o z : Bool) (new : Reading) (c : Cabinet)
    → (if o then (if z then device_keeping new (if z then c.first else c.second) else c.first) else (if z then c.second else device_keeping new (if z then c.first else c.second))).reading
    ≡ (if (if o then z else not z) then new else (if o then c.first else c.second).reading)
kept_there true true new c = refl
kept_there true false new c = refl
kept_there false true new c = refl
kept_there false false new c = refl

after_reading : (v : Verdict) (own : ℕ) (w : Whole) (named : ℕ) (new : Reading) → own ≤ 1 → verdict (reading_checks w named new) ≡ v
    → (device_of own (happened v (kept w named new) w).after.cabinet).reading ≡ last_reading own w (reading named new) (happened v (kept w named new) w).reply.verdict
after_reading (Ok tt) own w named new l e =
    kept_there (own =? 0) (named =? 0) new w.cabinet
    ∙ ap (λ (mine : Bool). if mine then new else (device_of own w.cabinet).reading) (mine_named own named l (passed (reading_checks w named new) e).1.0)
after_reading (Err refusal) own w named new l e = refl

pub last_kept : LastKept
unfolding call_result tick_result power_result reading_result
last_kept own l w (call host named revision index request answer) =
    outcome_reading (verdict (call_checks w named revision index request answer)) own w named (call_in revision index request) (row_of index).answer answer
last_kept own l w tick = happened_reading (verdict (tick_checks w)) own (ticked w) w (ticked_reading (own =? 0) w)
last_kept own l w (power named) =
    happened_reading (verdict (event_checks w named)) own (powered w named) w
    (in_place (own =? 0) (named =? 0) (device_powered (device_of named w.cabinet)) w.cabinet.first w.cabinet.second refl)
last_kept own l w (reading named new) = after_reading (verdict (reading_checks w named new)) own w named new l refl
