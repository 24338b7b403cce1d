-- What the C functions promise: the number that they give and every buffer at their end, by equations. The record is bytes (crate cabinet_bytes); what a call,
-- a tick, a power cycle and a reading come to is document 01's (crate rules); what of it is told and kept is abi_keep's.
-- Assumes nothing.
use mathlib.Core.{Path.◌≡◌, Bool.{Bool, ◌&&◌}, List.List}
use Rattle.std.specs.Prelude.{ℕ, ℤ, pos, length}
use Rattle.std.specs.Prelude.{if◌then◌else◌}
use Rattle.rules.specs.Tests.{◌=?◌}
use Rattle.rules.specs.Record.{fresh_cabinet}
use Rattle.rules.specs.Adopt.{adoptable, adopted_cabinet}
use Rattle.rules.specs.Cabinet.{Result}
use Rattle.device_bytes.specs.Encoding.{decode_of}
use Rattle.cabinet_bytes.specs.Encoding.{cabinet_size, encode_cabinet}
use Rattle.abi_keep.specs.Kept.{refusal, told, kept}

-- a call, with the result that the rules give the record in these bytes
pub record Called (result : Result) (bytes : List ℕ) (number : ℤ) (bytes' area' answer' : List ℕ) : Type 0 where
  pub number_is : number ≡ told result.reply
  pub record_is : bytes' ≡ kept result bytes
  pub area_is : area' ≡ result.after.area
  pub answer_is : answer' ≡ result.answer

-- a tick, a power cycle or a reading, whose area is only read
pub record Happened (result : Result) (bytes : List ℕ) (number : ℤ) (bytes' : List ℕ) : Type 0 where
  pub number_is : number ≡ told result.reply
  pub record_is : bytes' ≡ kept result bytes

-- a fresh record, written where there are 288 bytes for it
pub record Made (bytes : List ℕ) (number : ℤ) (bytes' : List ℕ) : Type 0 where
  pub number_is : number ≡ (if length bytes =? cabinet_size then pos 0 else refusal 3)
  pub record_is : bytes' ≡ (if length bytes =? cabinet_size then encode_cabinet fresh_cabinet else bytes)

-- a record of a module that was alone, of any library before T-09, taken over where there are 288 bytes for it; `bytes` are those before
abbrev pub taken_over : (old bytes : List ℕ) → Bool
taken_over old bytes = adoptable (decode_of old) && length bytes =? cabinet_size

pub record Adopted (old bytes : List ℕ) (number : ℤ) (bytes' : List ℕ) : Type 0 where
  pub number_is : number ≡ (if taken_over old bytes then pos 0 else refusal 3)
  pub record_is : bytes' ≡ (if taken_over old bytes then encode_cabinet (adopted_cabinet (decode_of old)) else bytes)
