-- What the page says of one event, beside the demands, written out with none of the words of rules' Beside.antt.
-- Assumes nothing.
use Rattle.std.specs.Prelude.{ℕ, ◌≤◌, length}
use mathlib.Core.{Path.◌≡◌, Logic.◌⊎◌, Bool.true, List.List}
use Rattle.rules.specs.Record.{possible_cabinet, Whole, device_of}
use Rattle.rules.specs.Refusals.{verdict}
use Rattle.rules.specs.Security.{GetSecurityState, SetPassphrase, Disable, Unlock, Freeze, security_checks}
use Rattle.rules.specs.Cabinet.{call, tick, power, reading, step}
use Rattle.rules.specs.declared.{Refusal.Refusal, Refusal.TheVariants.Status, Phase.TheVariants.Staged, Security.Security, Reading.Reading}
use Rattle.std.specs.Prelude.{Ok, Err}

-- nothing but an accepted call of function 14 changes the area
pub record AreaWrittenOut (w : Whole) : Type 0 where
  pub over_a_tick : (step w tick).after.area ≡ w.area
  pub over_a_power_cycle : (named : ℕ) → (step w (power named)).after.area ≡ w.area
  pub over_a_reading : (named : ℕ) (new : Reading) → (step w (reading named new)).after.area ≡ w.area
  pub over_other_functions : (host named revision index : ℕ) (request buffer : List ℕ) → (index ≡ 14 → ⊥)
      → (step w (call host named revision index request buffer)).after.area ≡ w.area
  pub over_refusals : (host named revision index : ℕ) (request buffer : List ℕ) (refusal : Refusal)
      → (step w (call host named revision index request buffer)).reply.verdict ≡ Err refusal
      → (step w (call host named revision index request buffer)).after.area ≡ w.area

-- a module's last reading stays over every event but a reading of it that is accepted, which is then the last
pub record LastWrittenOut (own : ℕ) (w : Whole) : Type 0 where
  pub stays_over_a_tick : (device_of own (step w tick).after.cabinet).reading ≡ (device_of own w.cabinet).reading
  pub stays_over_power : (named : ℕ) → (device_of own (step w (power named)).after.cabinet).reading ≡ (device_of own w.cabinet).reading
  pub stays_over_a_call : (host named revision index : ℕ) (request buffer : List ℕ)
      → (device_of own (step w (call host named revision index request buffer)).after.cabinet).reading ≡ (device_of own w.cabinet).reading
  pub stays_where_refused : (named : ℕ) (new : Reading) (refusal : Refusal) → (step w (reading named new)).reply.verdict ≡ Err refusal
      → (device_of own (step w (reading named new)).after.cabinet).reading ≡ (device_of own w.cabinet).reading
  pub stays_over_the_other : (named : ℕ) (new : Reading) → (named ≡ own → ⊥)
      → (device_of own (step w (reading named new)).after.cabinet).reading ≡ (device_of own w.cabinet).reading
  pub new_where_accepted : (new : Reading) → (step w (reading own new)).reply.verdict ≡ Ok tt → (device_of own (step w (reading own new)).after.cabinet).reading ≡ new

-- frozen, or with ten attempts: 10 to four of the five calls, whatever they carry
pub record FrozenWrittenOut (s : Security) : Type 0 where
  pub state_told : verdict (security_checks s GetSecurityState) ≡ Ok tt
  pub set_10 : (current new : List ℕ) → verdict (security_checks s (SetPassphrase current new)) ≡ Err (Status 10 0)
  pub disable_10 : (current : List ℕ) → verdict (security_checks s (Disable current)) ≡ Err (Status 10 0)
  pub unlock_10 : (current : List ℕ) → verdict (security_checks s (Unlock current)) ≡ Err (Status 10 0)
  pub freeze_10 : verdict (security_checks s Freeze) ≡ Err (Status 10 0)

pub record BesideWrittenOut : Type 0 where
  pub area : (w : Whole) → AreaWrittenOut w
  pub last_reading_law : (own : ℕ) → own ≤ 1 → (w : Whole) → LastWrittenOut own w
  pub frozen : (s : Security) → (s.frozen ≡ true) ⊎ (s.attempts ≡ 10) → FrozenWrittenOut s
  pub taken_over_law : (named : ℕ) → named ≤ 1 → (w : Whole) → possible_cabinet w.cabinet ≡ true → w.cabinet.contexts ≤ 4294967295 → length w.area ≡ 16384
      → (device_of named w.cabinet).transfer.phase ≡ Staged
      → (device_of named (step w (power named)).after.cabinet).transfer.running ≡ (device_of named w.cabinet).transfer.staged
