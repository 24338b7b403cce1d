-- Document 01, "Good image (house form: records of 128 bytes, no header)".
-- Assumes nothing.
use Rattle.std.specs.Prelude.{ℕ, zero, suc, ◌+◌, ◌*◌, ◌/◌, ◌%◌, ◌^◌}
use mathlib.Core.{Bool.{Bool, true, not, ◌&&◌}, List.List}
use Rattle.std.specs.Prelude.{length, take, drop}
use Rattle.rules.specs.Tests.{◌≤?◌, ◌=?◌}
use Rattle.rules.specs.Bytes.{number_at}

-- "records of 128 bytes"
abbrev pub image_record_size : ℕ
image_record_size = 128

-- "n from 1 to 128"
abbrev pub most_records : ℕ
most_records = 128

-- A field of an image record: its first byte's place, and how many bytes it has. What makes, accepts and reads records has its places from here alone.
pub record Field : Type 0 where
  pub place : ℕ
  pub size : ℕ

-- "Record i, from 0: bytes 0 to 1 hold i;"
abbrev pub number_field : Field
number_field = record { place = 0; size = 2 }

-- "2 to 3 hold n;"
abbrev pub count_field : Field
count_field = record { place = 2; size = 2 }

-- "4 to 11 a nonzero version, the same in all;"
abbrev pub version_field : Field
version_field = record { place = 4; size = 8 }

-- "12 to 123 payload;"
abbrev pub payload_field : Field
payload_field = record { place = 12; size = 112 }

-- "124 to 127 the sum .."
abbrev pub sum_field : Field
sum_field = record { place = 124; size = 4 }

-- ".. of the 31 words before it"
abbrev pub summed_words : ℕ
summed_words = 31

-- what a field of a record holds: its bytes, and as a number
abbrev pub bytes_in : Field → List ℕ → List ℕ
bytes_in field bytes = take field.size (drop field.place bytes)

abbrev pub number_in : Field → List ℕ → ℕ
number_in field bytes = number_at field.size field.place bytes

-- "n": how many whole records the bytes make
abbrev pub records_of : List ℕ → ℕ
records_of bytes = length bytes / image_record_size

-- the sum of the first so many words, as an exact number
unfoldable pub sum_of_words : ℕ → List ℕ → ℕ
sum_of_words zero bytes = 0
sum_of_words (suc words) bytes = number_at 4 0 bytes + sum_of_words words (drop 4 bytes)

-- "the sum of the 31 words before it, which wraps at 32 bits."
abbrev pub record_sum : List ℕ → ℕ
record_sum bytes = sum_of_words summed_words bytes % 2 ^ 32

-- Record i of n: the four fields that are told hold what they must; the payload may be anything.
unfoldable pub good_record : (i n version : ℕ) → List ℕ → Bool
good_record i n version bytes =
    (number_in number_field bytes =? i)
    && (number_in count_field bytes =? n)
    && (number_in version_field bytes =? version)
    && (number_in sum_field bytes =? record_sum bytes)

-- so many records, from number i on
unfoldable pub good_records : (records i n version : ℕ) → List ℕ → Bool
good_records zero i n version bytes = true
good_records (suc records) i n version bytes =
    good_record i n version (take image_record_size bytes) && good_records records (i + 1) n version (drop image_record_size bytes)

-- "received is n times 128, n from 1 to 128."
abbrev pub good_size : List ℕ → Bool
good_size bytes = (length bytes =? records_of bytes * image_record_size) && (1 ≤? records_of bytes) && (records_of bytes ≤? most_records)

-- the version of record 0
abbrev pub version_of : List ℕ → ℕ
version_of bytes = number_in version_field bytes

-- The size, "a nonzero version", and every record.
unfoldable pub good_image : List ℕ → Bool
good_image bytes =
    good_size bytes
    && not (version_of bytes =? 0)
    && good_records (records_of bytes) 0 (records_of bytes) (version_of bytes) bytes
