-- Document 01, "Locking and passphrases", and what a power cycle does to them.
-- Assumes nothing.
use Rattle.std.specs.Prelude.{ℕ, ◌+◌}
use mathlib.Core.{Bool.{Bool, true, false, not, ◌&&◌, ◌||◌}, List.{List, [], ◌∷◌, ◌++◌}}
use Rattle.std.specs.Prelude.{take, drop}
use Rattle.rules.specs.Tests.{◌=?◌}
use Rattle.rules.specs.Bytes.{le, zeros, same?, bit}
use Rattle.rules.specs.Numbers.{attempt_limit}
use Rattle.rules.specs.With.{◌with_enabled◌, ◌with_locked◌, ◌with_frozen◌, ◌with_attempts◌, ◌with_passphrase◌}
use Rattle.rules.specs.Refusals.{Check, ◌gives◌}
use Rattle.rules.specs.declared.{Refusal.TheVariants.Status, Security.Security}

pub data SecurityCall : Type 0 where
  GetSecurityState : SecurityCall
  SetPassphrase : (current new : List ℕ) → SecurityCall
  Disable : (current : List ℕ) → SecurityCall
  Unlock : (current : List ℕ) → SecurityCall
  Freeze : SecurityCall

-- "Bit 1 enabled, bit 2 locked, bit 3 frozen, bit 4 attempts at 10; others 0."
abbrev pub state_byte : Security → ℕ
state_byte s = bit 1 s.enabled + bit 2 s.locked + bit 3 s.frozen + bit 4 (s.attempts =? attempt_limit)

-- "Get Security State after the status: four zeros, the state byte, three zeros."
abbrev pub security_state : Security → List ℕ
security_state s = zeros 4 ++ le 1 (state_byte s) ++ zeros 3

-- "For 20 to 23, frozen or attempts at 10 gives 10 first." "The tenth wrong one still answers 11."
abbrev pub frozen_or_limit_check : Security → Check
frozen_or_limit_check s = s.frozen || s.attempts =? attempt_limit gives Status 10 0

-- "unequal 11"
abbrev pub wrong : Security → (current : List ℕ) → Bool
wrong s current = not (same? current s.passphrase)

-- The request of Set: the current passphrase, then the new one (document 000, Table 3-27; docs/DECISIONS.md, A20).
abbrev pub set_passphrase_of : (request : List ℕ) → SecurityCall
set_passphrase_of request = SetPassphrase (take 32 request) (drop 32 request)

-- The checks of a call that carries a passphrase: the frozen state first, then what the call is forbidden by, then the passphrase.
abbrev pub passphrase_checks : Security → (forbidden unequal : Bool) → List Check
passphrase_checks s forbidden unequal =
    frozen_or_limit_check s ∷ (forbidden gives Status 10 0) ∷ (unequal gives Status 11 0) ∷ []

-- "Set: locked gives 10; enabled and current passphrase unequal gives 11;" "(not enabled: the current field is ignored)"
abbrev pub set_passphrase_checks : Security → (current : List ℕ) → List Check
set_passphrase_checks s current = passphrase_checks s s.locked (s.enabled && wrong s current)

-- "else the new one is stored, enabled on, attempts 0" "Any 32 bytes may be a passphrase."
abbrev pub set_passphrase_change : Security → (new : List ℕ) → Security
set_passphrase_change s new = s with_passphrase new with_enabled true with_attempts 0

-- "Disable: 10 unless enabled and not locked; unequal 11;"
abbrev pub disable_checks : Security → (current : List ℕ) → List Check
disable_checks s current = passphrase_checks s (not (s.enabled && not s.locked)) (wrong s current)

-- "else enabled off, passphrase zero, attempts 0."
abbrev pub disable_change : Security → Security
disable_change s = s with_enabled false with_passphrase (zeros 32) with_attempts 0

-- "Unlock: 10 unless enabled and locked; unequal 11;"
abbrev pub unlock_checks : Security → (current : List ℕ) → List Check
unlock_checks s current = passphrase_checks s (not (s.enabled && s.locked)) (wrong s current)

-- "else locked off, attempts 0."
abbrev pub unlock_change : Security → Security
unlock_change s = s with_locked false with_attempts 0

-- "Freeze: frozen on, locked or not."
abbrev pub freeze_change : Security → Security
freeze_change s = s with_frozen true

-- The five calls together: their checks; their answers after the status; what they change.
abbrev pub security_checks : Security → SecurityCall → List Check
security_checks s GetSecurityState = []
security_checks s (SetPassphrase current new) = set_passphrase_checks s current
security_checks s (Disable current) = disable_checks s current
security_checks s (Unlock current) = unlock_checks s current
security_checks s Freeze = frozen_or_limit_check s ∷ []

abbrev pub security_answer : Security → SecurityCall → List ℕ
security_answer s GetSecurityState = security_state s
security_answer s (SetPassphrase current new) = []
security_answer s (Disable current) = []
security_answer s (Unlock current) = []
security_answer s Freeze = []

abbrev pub security_change : Security → SecurityCall → Security
security_change s GetSecurityState = s
security_change s (SetPassphrase current new) = set_passphrase_change s new
security_change s (Disable current) = disable_change s
security_change s (Unlock current) = unlock_change s
security_change s Freeze = freeze_change s

-- "Power cycle. .. frozen off, attempts 0, locked exactly if enabled." "passphrase .. stay."
abbrev pub security_power : Security → Security
security_power s = s with_frozen false with_attempts 0 with_locked s.enabled
