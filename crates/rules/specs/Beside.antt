-- Beside the demands: what the page says of one event and neither demand 1 nor demand 3 does, as statements.
-- Assumes nothing.
use Rattle.std.specs.Prelude.{ℕ, ◌≤◌}
use mathlib.Core.{Path.◌≡◌, Bool.{true, ◌||◌}}
use Rattle.std.specs.Prelude.{if◌then◌else◌}
use Rattle.rules.specs.Tests.{◌=?◌}
use Rattle.rules.specs.Numbers.{attempt_limit}
use Rattle.rules.specs.Record.{Whole, device_of}
use Rattle.rules.specs.Refusals.{verdict}
use Rattle.rules.specs.Security.{SecurityCall, GetSecurityState, SetPassphrase, Disable, Unlock, Freeze, security_checks}
use Rattle.rules.specs.Cabinet.{Event, call, tick, power, reading, step}
use Rattle.rules.specs.Transfers.{machine, Kind, Started, Sent, Finished, Ticked, Powered, Other, event_kind}
use Rattle.rules.specs.Demand3.{staged_with, Sound}
use Rattle.rules.specs.declared.{Refusal.TheVariants.Status, Security.Security, Reading.Reading}
use Rattle.rules.specs.Refusals.{Verdict}
use Rattle.std.specs.Prelude.{Ok, Err}

-- no accepted Send
abbrev pub NoSend : Kind → Type 0
NoSend (Started named host context) = Unit {0}
NoSend (Sent named host context offset piece) = ⊥
NoSend (Finished named host context flag) = Unit {0}
NoSend Ticked = Unit {0}
NoSend (Powered named) = Unit {0}
NoSend Other = Unit {0}

-- "The area's bytes stay": from any record and area no event but an accepted Send changes the area.
abbrev pub AreaStays : Type 0
AreaStays = (m : Whole) (event : Event) → NoSend (event_kind event (machine.answer m event)) → (step m event).after.area ≡ m.area

-- a module's reading after an event, by the event's verdict: that of an accepted reading that names it, else the last one
abbrev pub last_reading : (own : ℕ) → Whole → Event → Verdict → Reading
last_reading own w (call host named revision index request answer) verdict = (device_of own w.cabinet).reading
last_reading own w tick verdict = (device_of own w.cabinet).reading
last_reading own w (power named) verdict = (device_of own w.cabinet).reading
last_reading own w (reading named new) (Ok tt) = if named =? own then new else (device_of own w.cabinet).reading
last_reading own w (reading named new) (Err refusal) = (device_of own w.cabinet).reading

-- Document 02, T-04: "the device record keeps the last one", and "power cycles keep the last one": no call, tick or power cycle changes the reading; T-09: nor does a
-- reading of the other module.
abbrev pub LastKept : Type 0
LastKept =
    (own : ℕ) → own ≤ 1 → (w : Whole) (event : Event)
    → (device_of own (step w event).after.cabinet).reading ≡ last_reading own w event (step w event).reply.verdict

-- what a frozen module answers
abbrev pub while_frozen : SecurityCall → Verdict
while_frozen GetSecurityState = Ok tt
while_frozen (SetPassphrase given new) = Err (Status 10 0)
while_frozen (Disable given) = Err (Status 10 0)
while_frozen (Unlock given) = Err (Status 10 0)
while_frozen Freeze = Err (Status 10 0)

-- "For 20 to 23, frozen or attempts at 10 gives 10 first": such a module answers 10 to every call with a passphrase and to Freeze, right or wrong, so it
-- counts no attempt.
abbrev pub FrozenFirst : Type 0
FrozenFirst =
    (s : Security) (asked : SecurityCall) → (s.frozen || s.attempts =? attempt_limit) ≡ true
    → verdict (security_checks s asked) ≡ while_frozen asked

-- "From Staged the staged version becomes the running one."
abbrev pub TakenOver : Type 0
TakenOver =
    (named : ℕ) → named ≤ 1 → (w : Whole) (version : ℕ) → Sound w → staged_with named version w ≡ true
    → (device_of named (step w (power named)).after.cabinet).transfer.running ≡ version
