-- Document 02, T-09: an event leaves the record of a module that it does not reach; and which R numbers a tick and a power cycle give.
-- Assumes nothing.
use Prim.Native.Nat.{ℕ, ◌≤◌}
use mathlib.Core.{Path.{◌≡◌, refl, ◌∙◌}, Bool.{Bool, true, false, not, true≢false}, List.{List, [], ◌∷◌, ◌++◌}}
use Rattle.std.specs.Prelude.{if◌then◌else◌}
use Rattle.rules.specs.{Tests.{◌=?◌, ◌<?◌}, Record.{Whole, device_of, with_device_at, standing}, Table.{row_of, served_check, length_check}}
use Rattle.rules.specs.{Refusals.{R4Check, verdict, tick_checks, event_checks, one_attempt_more}, Module.{Call, call_in, checks, change, device_powered, device_keeping}}
use Rattle.rules.specs.Cabinet.{call, tick, power, reading, outcome, happened, ticked, powered, call_checks, reading_checks, call_result, tick_result, power_result, reading_result}
use Rattle.rules.specs.{Apart.OtherLeft, Demand1.Among, declared.Refusal.Refusal, declared.Refusal.TheVariants.{R, Status}}
use Rattle.rules.specs.declared.{Device.Device, Cabinet.Cabinet}
use Rattle.rules.proofs.{page.Past.{NoR, event_there, call_there}, page.Through.mine_named, page.Demand1.{happened_verdict, happened_among}}
use Rattle.rules.specs.Refusals.{Verdict}
use Rattle.std.specs.Prelude.{Ok, Err}

-- a record in one module's place leaves the other's: `o` and `z` tell whether the module looked at, and the one put in its place, is module 0
elsewhere : (o z : Bool) (d first second : Device) → (if o then z else not z) ≡ false
    → (if o then (if z then d else first) else (if z then second else d)) ≡ (if o then first else second)
elsewhere true true d first second e = absurd (true≢false e)
elsewhere true false d first second e = refl
elsewhere false true d first second e = refl
elsewhere false false d first second e = absurd (true≢false e)

module _ (own : ℕ) (l : own ≤ 1) where
  -- of two modules that there are, the other one
  other_place : (named : ℕ) (d : Device) (c : Cabinet) → (named =? own) ≡ false → (1 <? named) ≡ false → device_of own (with_device_at named d c) ≡ device_of own c
  other_place named d c e there = elsewhere (own =? 0) (named =? 0) d c.first c.second (mine_named own named l there ∙ e)

  -- what a status leaves, whether it counts an attempt or not
  left_there : (missed : Bool) (named : ℕ) (c : Cabinet) → (named =? own) ≡ false → (1 <? named) ≡ false
      → device_of own (if missed then with_device_at named (one_attempt_more (device_of named c)) c else c) ≡ device_of own c
  left_there true named c e there = other_place named (one_attempt_more (device_of named c)) c e there
  left_there false named c e there = refl

  -- a call, and a power cycle or a reading: with an R number nothing changes, and else the module that it names is one that there is
  outcome_left : (v : Verdict) (w : Whole) (named : ℕ) (c : Call) (n : ℕ) (answer : List ℕ) → (named =? own) ≡ false → (NoR v → (1 <? named) ≡ false)
      → device_of own (outcome v w named c n answer).after.cabinet ≡ device_of own w.cabinet
  outcome_left (Ok tt) w named c n answer e there = other_place named (change (standing named w) c).device w.cabinet e (there tt)
  outcome_left (Err (R number)) w named c n answer e there = refl
  outcome_left (Err (Status status ext)) w named c n answer e there = left_there (status =? 11) named w.cabinet e (there tt)

  happened_left : (v : Verdict) (w : Whole) (named : ℕ) (d : Device) → (named =? own) ≡ false → (NoR v → (1 <? named) ≡ false)
      → device_of own (happened v (record { cabinet = with_device_at named d w.cabinet; area = w.area }) w).after.cabinet ≡ device_of own w.cabinet
  happened_left (Ok tt) w named d e there = other_place named d w.cabinet e (there tt)
  happened_left (Err refusal) w named d e there = refl

pub other_left : OtherLeft
unfolding call_result power_result reading_result
other_left own l w (call host named revision index request answer) e =
    let rows = served_check revision index ∷ length_check index request ∷ [] ++ checks (standing named w) (call_in revision index request) in
    outcome_left own l (verdict (call_checks w named revision index request answer)) w named (call_in revision index request) (row_of index).answer answer e
    (call_there w named answer rows (verdict (call_checks w named revision index request answer)) refl)
other_left own l w tick e = absurd (true≢false e)
other_left own l w (power named) e =
    happened_left own l (verdict (event_checks w named)) w named (device_powered (device_of named w.cabinet)) e
    (event_there w named [] (verdict (event_checks w named)) refl)
other_left own l w (reading named new) e =
    happened_left own l (verdict (reading_checks w named new)) w named (device_keeping new (device_of named w.cabinet)) e
    (event_there w named (R4Check new ∷ []) (verdict (reading_checks w named new)) refl)

-- what decides, and which numbers they give
pub ticks_judged : (w : Whole) → (tick_result w).reply.verdict ≡ verdict (tick_checks w)
unfolding tick_result
ticks_judged w = happened_verdict (verdict (tick_checks w)) (ticked w) w

pub power_judged : (w : Whole) (named : ℕ) → (power_result w named).reply.verdict ≡ verdict (event_checks w named)
unfolding power_result
power_judged w named = happened_verdict (verdict (event_checks w named)) (powered w named) w

pub of_ticks : (w : Whole) (refusal : Refusal) → (tick_result w).reply.verdict ≡ Err refusal → Among (R 2 ∷ R 3 ∷ []) refusal
unfolding tick_result
of_ticks w = happened_among (R 2 ∷ R 3 ∷ []) (tick_checks w) (ticked w) w refl

pub of_power : (w : Whole) (named : ℕ) (refusal : Refusal) → (power_result w named).reply.verdict ≡ Err refusal → Among (R 2 ∷ R 5 ∷ R 3 ∷ []) refusal
unfolding power_result
of_power w named = happened_among (R 2 ∷ R 5 ∷ R 3 ∷ []) (event_checks w named) (powered w named) w refl
