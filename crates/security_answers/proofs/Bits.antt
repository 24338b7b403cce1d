-- The state byte by shifts is the state byte by sums.
-- Assumes nothing.
use mathlib.Core.{Path.{◌≡◌, refl}, Bool.{Bool, true, false}}
use Prim.Native.Nat.{◌+◌, ◌*◌, ◌%◌}
use lib.Bits.{bit_or}
use mir.Val.{bool_byte}
use Rattle.rules.specs.Bytes.{bit}

pub bits_or : (a b c d : Bool)
    → bit_or (bit_or (bit_or (bool_byte a * 2 % 256) (bool_byte b * 4 % 256)) (bool_byte c * 8 % 256)) (bool_byte d * 16 % 256)
    ≡ bit 1 a + bit 2 b + bit 3 c + bit 4 d
bits_or true true true true = refl
bits_or true true true false = refl
bits_or true true false true = refl
bits_or true true false false = refl
bits_or true false true true = refl
bits_or true false true false = refl
bits_or true false false true = refl
bits_or true false false false = refl
bits_or false true true true = refl
bits_or false true true false = refl
bits_or false true false true = refl
bits_or false true false false = refl
bits_or false false true true = refl
bits_or false false true false = refl
bits_or false false false true = refl
bits_or false false false false = refl
