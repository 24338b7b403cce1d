-- What a C function tells its caller of an image, and what it leaves in the output.
-- Assumes nothing.
use Rattle.std.specs.Prelude.{List, ℕ, ℤ, pos, neg_ℤ}
use Rattle.rules.specs.Made.{made_image, payload_of, making_of, output_made, reading_of, output_read}
use Rattle.rules.specs.Made.{Making, ReadingBack}
use Rattle.rules.specs.declared.NotMade.TheVariants.{VersionZero, PayloadOver128Records, OutputTooShort}
use Rattle.rules.specs.declared.NotRead.TheVariants.{NotGoodImage, OutputTooShort as ReadTooShort}
use Rattle.std.specs.Prelude.{Ok, Err}

-- the bytes written; or -1 version 0, -2 payload over 128 records, -3 output too short
abbrev pub told_made : Making → ℤ
told_made (Ok length) = pos length
told_made (Err VersionZero) = neg_ℤ (pos 1)
told_made (Err PayloadOver128Records) = neg_ℤ (pos 2)
told_made (Err OutputTooShort) = neg_ℤ (pos 3)

abbrev pub make_number : (version : ℕ) (payload output : List ℕ) → ℤ
make_number version payload output = told_made (making_of version payload output)

abbrev pub make_output : (version : ℕ) (payload output : List ℕ) → List ℕ
make_output version payload output = output_made (making_of version payload output) (made_image payload version) output

-- the bytes written; or -1 not a good image, -2 output too short
abbrev pub told_read : ReadingBack → ℤ
told_read (Ok length) = pos length
told_read (Err NotGoodImage) = neg_ℤ (pos 1)
told_read (Err ReadTooShort) = neg_ℤ (pos 2)

abbrev pub read_number : (image output : List ℕ) → ℤ
read_number image output = told_read (reading_of image output)

abbrev pub read_output : (image output : List ℕ) → List ℕ
read_output image output = output_read (reading_of image output) (payload_of image) output
