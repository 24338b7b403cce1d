-- The word VERSION: "decimal, 0 to 18,446,744,073,709,551,615; anything else is bad usage".
-- Assumes nothing.
use Rattle.std.specs.Prelude.{ℕ, ◌+◌, ◌-◌, ◌*◌}
use mathlib.Core.{Bool.{Bool, ◌&&◌}, List.{List, [], ◌∷◌}}
use Rattle.std.specs.Prelude.{length, Option}
use Rattle.std.specs.Prelude.{if◌then◌else◌}
use Rattle.std.specs.declared.option.Option.TheVariants.{None, Some}
use Rattle.rules.specs.Tests.{◌≤?◌, ◌=?◌}

-- a digit's number
abbrev pub digit : (byte : ℕ) → ℕ
digit byte = byte - 48

-- the byte is a digit, and the number with it behind n is none that is too large
unfoldable pub fits : (n byte : ℕ) → Bool
fits n byte = 48 ≤? byte && byte ≤? 57 && n * 10 + digit byte ≤? 18446744073709551615

-- the number that the digits of a word make behind n
unfoldable pub number_from : (n : ℕ) → List ℕ → Option ℕ
number_from n [] = Some n
number_from n (byte ∷ word) = if fits n byte then number_from (n * 10 + digit byte) word else None

-- a word of no digits is no number
unfoldable pub number_in : List ℕ → Option ℕ
number_in word = if length word =? 0 then None else number_from 0 word
