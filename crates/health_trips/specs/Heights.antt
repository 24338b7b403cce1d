-- Temperature words on one scale, so that two of them take one comparison.
-- Assumes nothing.
use Rattle.std.specs.Prelude.{ℕ, ◌+◌, ◌-◌}
use Rattle.std.specs.Prelude.{if◌then◌else◌}
use Rattle.rules.specs.Health.{negative}

-- a word's height above the lowest temperature; 8000h, the sign on and the size 0, stands where 0 does
abbrev pub height : (word : ℕ) → ℕ
height word = if negative word then 65536 - word else 32768 + word
