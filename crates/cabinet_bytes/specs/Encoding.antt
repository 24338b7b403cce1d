-- The cabinet's record as 288 bytes, little-endian, as a host keeps it: the contexts given out, zeros where nothing stands yet, and each module's device record
-- (crate device_bytes). Bytes that are no record decode to a cabinet that is not possible, so that R3 refuses them.
-- Assumes nothing.
use Rattle.std.specs.Prelude.{ℕ}
use mathlib.Core.{Path.◌≡◌, List.{List, ◌++◌}, Bool.{Bool, ◌&&◌}}
use Rattle.std.specs.Prelude.{length, take, drop}
use Rattle.std.specs.Prelude.{if◌then◌else◌}
use Rattle.rules.{specs.Tests.{◌=?◌}, specs.Bytes.{le, number_at, zeros, zeros?}, specs.Record.other_of, specs.declared.Cabinet.Cabinet}
use Rattle.device_bytes.specs.Encoding.{encoded_size, encode_of, impossible, decode_of}

-- the bytes of a record
abbrev pub cabinet_size : ℕ
cabinet_size = 288

-- where a module's bytes begin, and the other's: module 0 from 32, module 1 from 160
abbrev pub module_place : (named : ℕ) → ℕ
module_place named = if named =? 0 then 32 else 160

abbrev pub other_place : (named : ℕ) → ℕ
other_place named = if named =? 0 then 160 else 32

-- the bytes of the module that begins at a place
abbrev pub module_bytes : (place : ℕ) (s : List ℕ) → List ℕ
module_bytes place s = take encoded_size (drop place s)

-- 0 to 3 contexts given out; 4 to 31 zero; 32 to 159 module 0; 160 to 287 module 1
unfoldable pub encode_cabinet : Cabinet → List ℕ
encode_cabinet c = le 4 c.contexts ++ zeros 28 ++ (encode_of c.first ++ encode_of c.second)

-- these bytes are a cabinet's: 288 of them, zeros where nothing stands. Whether each module's are a record is for its own decoding to say.
unfoldable pub cabinet? : List ℕ → Bool
cabinet? s = length s =? cabinet_size && zeros? (take 28 (drop 4 s))

-- the cabinet that a cabinet's bytes say
unfoldable pub cabinet_of : List ℕ → Cabinet
cabinet_of s = record { contexts = number_at 4 0 s; first = decode_of (module_bytes 32 s); second = decode_of (module_bytes 160 s) }

-- a cabinet that is not possible
unfoldable pub impossible_cabinet : Cabinet
impossible_cabinet = record { contexts = 0; first = impossible; second = impossible }

-- any bytes, decoded
unfoldable pub decode_cabinet : List ℕ → Cabinet
decode_cabinet s = if cabinet? s then cabinet_of s else impossible_cabinet

-- These bytes are the cabinet's but for the module's own and the contexts given out: so those alone need to be written.
pub record Around (named : ℕ) (c : Cabinet) (s : List ℕ) : Type 0 where
  pub long : length s ≡ cabinet_size
  pub between : take 28 (drop 4 s) ≡ zeros 28
  pub other : module_bytes (other_place named) s ≡ encode_of (other_of named c)
