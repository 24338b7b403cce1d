-- A record's front: its first eight bytes, which are its number, the count and the low half of the version, as one number; so that one comparison tests them.
-- Assumes nothing.
use Rattle.std.specs.Prelude.{ℕ, ◌+◌, ◌*◌, ◌%◌, ◌^◌}
use mathlib.Core.{Bool.{Bool, ◌&&◌}, List.List}
use Rattle.rules.specs.{Tests.◌=?◌, Bytes.number_at, Image.{version_field, number_in}, Fault.sum_test}

-- the front of record i of n; that of the next record is one more
abbrev pub front_of : (i n version : ℕ) → ℕ
front_of i n version = i + n * 65536 + version % 2 ^ 32 * 2 ^ 32

-- a record with this front, this version and a right sum
unfoldable pub good_behind : (front version : ℕ) → List ℕ → Bool
good_behind front version bytes = (number_at 8 0 bytes =? front) && (number_in version_field bytes =? version) && sum_test bytes
