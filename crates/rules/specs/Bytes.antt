-- Vocabulary: bytes. "All numbers in requests, answers, images, logs and stores are little-endian."
-- A run of bytes is a list of numbers; place 0 is its first byte. In the code each is below 256; what is said here of lists holds for any numbers.
-- Assumes nothing.
use Rattle.std.specs.Prelude.{ℕ, zero, suc, ◌+◌, ◌*◌, ◌/◌, ◌%◌, ◌^◌, ◌<◌}
use mathlib.Core.{List.{List, [], ◌∷◌, ◌++◌}, Bool.{Bool, true, false, ◌&&◌}}
use Rattle.std.specs.Prelude.{length, take, drop, replicate, get_or}
use Rattle.std.specs.Prelude.{if◌then◌else◌}
use Rattle.rules.specs.Tests.{◌=?◌}

-- every number of the list is a byte's; past the list's end there is none, which reads as 0
abbrev pub AreBytes : List ℕ → Type 0
AreBytes bytes = (place : ℕ) → get_or bytes place 0 < 256

-- the number n as so many bytes, lowest first
abbrev pub le : ℕ → ℕ → List ℕ
le zero n = []
le (suc width) n = n % 256 ∷ le width (n / 256)

-- the number whose bytes, lowest first, these are
abbrev pub of_le : List ℕ → ℕ
of_le [] = 0
of_le (byte ∷ bytes) = byte + 256 * of_le bytes

-- the number in so many bytes from a place on
abbrev pub number_at : (width place : ℕ) → List ℕ → ℕ
number_at width place bytes = of_le (take width (drop place bytes))

-- so many zero bytes
abbrev pub zeros : ℕ → List ℕ
zeros n = replicate n 0

-- every byte is zero
unfoldable pub zeros? : List ℕ → Bool
zeros? [] = true
zeros? (byte ∷ bytes) = byte =? 0 && zeros? bytes

-- the two hold the same bytes
unfoldable pub same? : List ℕ → List ℕ → Bool
same? [] [] = true
same? [] (y ∷ ys) = false
same? (x ∷ xs) [] = false
same? (x ∷ xs) (y ∷ ys) = x =? y && same? xs ys

-- old, with its bytes from a place on replaced by new as far as new goes; every other byte stays
abbrev pub splice : ℕ → (new old : List ℕ) → List ℕ
splice place new old = take place old ++ (new ++ drop (place + length new) old)

-- whether bit k of n is on
abbrev pub on : (k n : ℕ) → Bool
on k n = (n / 2 ^ k) % 2 =? 1

-- bit k, if it is on
abbrev pub bit : ℕ → Bool → ℕ
bit k on = if on then 2 ^ k else 0
