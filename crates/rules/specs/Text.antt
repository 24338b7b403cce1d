-- Vocabulary: text as bytes.
-- Assumes nothing.
use Rattle.std.specs.Prelude.{ℕ, zero, suc, ◌+◌, ◌/◌, ◌%◌, List, [], ◌∷◌, ◌++◌}
use Prim.Native.Char.{code}
use Rattle.std.specs.Prelude.{if◌then◌else◌}
use Rattle.rules.specs.Tests.{◌<?◌}
use Prim.Native.String.{String, [] as end, ◌∷◌ as ◌then◌}

-- The bytes of a quoted text of ASCII characters. A text is `end`, empty, or `c then text`, a character before the rest; `code c` is its number.
abbrev pub ascii : String → List ℕ
ascii end = []
ascii (c then text) = code c ∷ ascii text

-- a number in decimal, of at most so many digits: one below 10 is its digit; any other is what stands before its last digit, and that digit
abbrev pub shown : (most : ℕ) → ℕ → List ℕ
shown zero n = []
shown (suc most) n = if n <? 10 then (48 + n) ∷ [] else (shown most (n / 10) ++ ((48 + n % 10) ∷ []))

-- a number in decimal, without padding; 20 digits hold every number of 64 bits
unfoldable pub decimal : ℕ → List ℕ
decimal n = shown 20 n

-- a number in decimal, and the text after it
abbrev pub field : ℕ → String → List ℕ
field n text = decimal n ++ ascii text
