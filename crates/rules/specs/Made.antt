-- Document 02, "T-02 We need to make images, not only accept them": the records made from a payload and a version, and the payload that an image carries. The
-- fields with their sizes, and the sum, are those of a good image (Image.antt). Making says their order besides, one after another; that each then lies at its
-- place there is proved with `good_image_law`. Readings: docs/DECISIONS.md, B7, B8 and B63.
-- Assumes nothing.
use Rattle.std.specs.Prelude.{ℕ, zero, suc, ◌+◌, ◌-◌, ◌*◌, ◌/◌, ◌≤◌}
use mathlib.Core.{Path.◌≡◌, List.{List, [], ◌++◌}}
use Rattle.std.specs.Prelude.{length, take, drop}
use Rattle.std.specs.Prelude.{if◌then◌else◌}
use Rattle.rules.specs.Tests.{◌<?◌, ◌=?◌}
use Rattle.rules.specs.Bytes.{le, zeros, splice, AreBytes}
use Rattle.rules.specs.Image.{image_record_size, most_records, Field, number_field, count_field, version_field, payload_field, sum_field}
use Rattle.rules.specs.{Image.{bytes_in, records_of, record_sum}, Fault.{Image, image_of}}
use Rattle.std.specs.Prelude.{Result, Ok, Err}
use Rattle.rules.specs.declared.{NotMade.NotMade, NotMade.TheVariants.{VersionZero, PayloadOver128Records, OutputTooShort}}
use Rattle.rules.specs.declared.{NotRead.NotRead, NotRead.TheVariants.{NotGoodImage, OutputTooShort as ReadTooShort}}

-- "112-byte parts": as many bytes as a record has for its payload
abbrev pub part_size : ℕ
part_size = payload_field.size

-- "Payload is cut into 112-byte parts": how many, where the last may have fewer bytes
abbrev pub parts_in : (bytes : ℕ) → ℕ
parts_in bytes = (bytes + (part_size - 1)) / part_size

-- "an empty payload makes one record": how many records a payload makes
abbrev pub parts_of : (payload : List ℕ) → ℕ
parts_of payload = if length payload =? 0 then 1 else parts_in (length payload)

-- "the last padded with zeros": the first part of what is left of a payload
abbrev pub first_part : (payload : List ℕ) → List ℕ
first_part payload = take part_size payload ++ zeros (part_size - length (take part_size payload))

-- a number as the bytes of a field
abbrev pub as_field : Field → ℕ → List ℕ
as_field field number = le field.size number

-- a record before its sum: number, count, version and payload, one after another
abbrev pub unsummed : (i n version : ℕ) (part : List ℕ) → List ℕ
unsummed i n version part = as_field number_field i ++ (as_field count_field n ++ (as_field version_field version ++ part))

-- "the 128-byte records": record i of n
unfoldable pub made_record : (i n version : ℕ) (part : List ℕ) → List ℕ
made_record i n version part = unsummed i n version part ++ as_field sum_field (record_sum (unsummed i n version part))

-- so many records, from number i on, of what is left of the payload
unfoldable pub made_records : (records i n version : ℕ) (payload : List ℕ) → List ℕ
made_records zero i n version payload = []
made_records (suc records) i n version payload =
    made_record i n version (first_part payload) ++ made_records records (i + 1) n version (drop part_size payload)

-- "gives a payload and a version and wants the 128-byte records"
unfoldable pub made_image : (payload : List ℕ) (version : ℕ) → List ℕ
made_image payload version = made_records (parts_of payload) 0 (parts_of payload) version payload

-- what so many records carry
unfoldable pub carried : (records : ℕ) → List ℕ → List ℕ
carried zero bytes = []
carried (suc records) bytes = bytes_in payload_field bytes ++ carried records (drop image_record_size bytes)

-- "reading the payload back": what an image carries
unfoldable pub payload_of : (image : List ℕ) → List ℕ
payload_of image = carried (records_of image) image

-- "the payload with its padding"
abbrev pub with_padding : (payload : List ℕ) → List ℕ
with_padding payload = payload ++ zeros (parts_of payload * part_size - length payload)

-- what making an image comes to, and reading one back: how many bytes were written, or why none was
abbrev pub Making : Type 0
Making = Result ℕ NotMade

abbrev pub ReadingBack : Type 0
ReadingBack = Result ℕ NotRead

-- "Refusals in order: for writing, version 0, payload over 128 records, output too short"
unfoldable pub making_of : (version : ℕ) (payload output : List ℕ) → Making
making_of version payload output =
    if version =? 0 then Err VersionZero
    else if most_records <? parts_of payload then Err PayloadOver128Records
    else if length output <? parts_of payload * image_record_size then Err OutputTooShort
    else Ok (parts_of payload * image_record_size)

-- "Output bytes past what is written stay.", and of a refusal "nothing is written": the output afterwards
abbrev pub output_made : Making → (image output : List ℕ) → List ℕ
output_made (Ok length) image output = splice 0 image output
output_made (Err reason) image output = output

-- "for reading back, not a good image, output too short"
abbrev pub reading_if : Image → (image output : List ℕ) → ReadingBack
reading_if (Ok version) image output = if length output <? records_of image * part_size then Err ReadTooShort else Ok (records_of image * part_size)
reading_if (Err fault) image output = Err NotGoodImage

unfoldable pub reading_of : (image output : List ℕ) → ReadingBack
reading_of image output = reading_if (image_of image) image output

-- the output after reading back, likewise
abbrev pub output_read : ReadingBack → (payload output : List ℕ) → List ℕ
output_read (Ok length) payload output = splice 0 payload output
output_read (Err reason) payload output = output

-- "What it writes is a good image, and reading the payload back gives the payload with its padding."
pub record MadeWell (payload : List ℕ) (version : ℕ) : Type 0 where
  pub good_image_law : image_of (made_image payload version) ≡ Ok version
  pub reads_back : payload_of (made_image payload version) ≡ with_padding payload
  pub its_bytes : AreBytes payload → AreBytes (made_image payload version)

-- "112-byte parts, the last padded with zeros; an empty payload makes one record": at least one part, enough for the payload, and no more than that takes
pub record PartsOf (payload : List ℕ) (parts : ℕ) : Type 0 where
  pub one : 1 ≤ parts
  pub enough : length payload ≤ parts * part_size
  pub no_more : (fewer : ℕ) → 1 ≤ fewer → length payload ≤ fewer * part_size → parts ≤ fewer

-- what an answer tells is the length of what is written, and the output has room for it
pub record Told (told : ℕ) (written output : List ℕ) : Type 0 where
  pub its_length : told ≡ length written
  pub room : told ≤ length output

-- T-02: of any payload of at most 14,336 bytes, which is at most 128 records, and of any version from 1 on that has 64 bits; and the other way round, what a
-- good image carries makes that image again, byte for byte. What is made has 128 bytes for each part of the payload, what is read back 112 for each record, and
-- so much is told.
pub record RequestT02 : Type 0 where
  pub parts : (payload : List ℕ) → PartsOf payload (parts_of payload)
  pub over_128_records : (payload : List ℕ) → (most_records <? parts_of payload) ≡ (14336 <? length payload)
  pub made_well : (payload : List ℕ) (version : ℕ) → length payload ≤ 14336 → 1 ≤ version → version ≤ 18446744073709551615 → MadeWell payload version
  pub made_again : (image : List ℕ) (version : ℕ) → AreBytes image → image_of image ≡ Ok version → made_image (payload_of image) version ≡ image
  pub made_size : (payload : List ℕ) (version : ℕ) → length (made_image payload version) ≡ parts_of payload * image_record_size
  pub read_size : (image : List ℕ) → length (payload_of image) ≡ records_of image * part_size
  pub made_told : (version : ℕ) (payload output : List ℕ) (told : ℕ) → making_of version payload output ≡ Ok told → Told told (made_image payload version) output
  pub read_told : (image output : List ℕ) (told : ℕ) → reading_of image output ≡ Ok told → Told told (payload_of image) output
