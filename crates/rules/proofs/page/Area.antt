-- "The area's bytes stay": from any record and area, no event but an accepted Send changes the area.
-- Assumes nothing.
use Prim.Native.Nat.{ℕ}
use mathlib.Core.{Path.{◌≡◌, refl}, List.List}
use Rattle.rules.specs.{Refusals.{verdict, tick_checks, event_checks}, Table.row_of, Transfer.{GetFwInfo, Start, Send, Finish, Query}, Record.Whole}
use Rattle.rules.specs.Module.{Call, OnMask, OnHealth, OnThresholds, OnTransfer, OnSecurity, OnNothing, call_in}
use Rattle.rules.specs.Cabinet.{call, tick, power, reading, outcome, ticked, powered, kept, happened, call_checks, reading_checks, call_result, tick_result, power_result, reading_result}
use Rattle.rules.specs.{Transfers.call_kind, Beside.{NoSend, AreaStays}, declared.Refusal.TheVariants.{R, Status}}
use Rattle.rules.specs.Refusals.{Verdict}
use Rattle.std.specs.Prelude.{Ok, Err}

outcome_area : (v : Verdict) (host : ℕ) (w : Whole) (named : ℕ) (c : Call) (n : ℕ) (answer : List ℕ)
    → NoSend (call_kind named host c (record { reply = (outcome v w named c n answer).reply; buffer = (outcome v w named c n answer).answer }))
    → (outcome v w named c n answer).after.area ≡ w.area
outcome_area (Ok tt) host w named (OnMask revision) n answer k = refl
outcome_area (Ok tt) host w named OnHealth n answer k = refl
outcome_area (Ok tt) host w named (OnThresholds x) n answer k = refl
outcome_area (Ok tt) host w named (OnTransfer GetFwInfo) n answer k = refl
outcome_area (Ok tt) host w named (OnTransfer Start) n answer k = refl
outcome_area (Ok tt) host w named (OnTransfer (Send context offset size piece)) n answer k = absurd k
outcome_area (Ok tt) host w named (OnTransfer (Finish flag reserved context)) n answer k = refl
outcome_area (Ok tt) host w named (OnTransfer (Query context)) n answer k = refl
outcome_area (Ok tt) host w named (OnSecurity x) n answer k = refl
outcome_area (Ok tt) host w named OnNothing n answer k = refl
outcome_area (Err (R number)) host w named c n answer k = refl
outcome_area (Err (Status status ext)) host w named c n answer k = refl

happened_area : (v : Verdict) (changed was : Whole) → changed.area ≡ was.area → (happened v changed was).after.area ≡ was.area
happened_area (Ok tt) changed was e = e
happened_area (Err refusal) changed was e = refl

pub area_stays : AreaStays
unfolding call_result tick_result power_result reading_result
area_stays w (call host named revision index request answer) k =
    outcome_area (verdict (call_checks w named revision index request answer)) host w named (call_in revision index request) (row_of index).answer answer k
area_stays w tick k = happened_area (verdict (tick_checks w)) (ticked w) w refl
area_stays w (power named) k = happened_area (verdict (event_checks w named)) (powered w named) w refl
area_stays w (reading named new) k = happened_area (verdict (reading_checks w named new)) (kept w named new) w refl
