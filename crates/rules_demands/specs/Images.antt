-- Document 02, T-02, written out, and by examples: two images written out byte by byte, how many records payloads make, and each refusal where its turn is.
-- Assumes nothing.
use Rattle.std.specs.Prelude.{ℕ, ◌-◌, ◌*◌, ◌/◌, ◌<◌, ◌≤◌}
use mathlib.Core.{Path.◌≡◌, List.{List, [], ◌∷◌, ◌++◌, map}}
use Rattle.std.specs.Prelude.{length, replicate, get_or}
use Rattle.rules.specs.{Tests.{◌<?◌}, Fault.{image_of}}
use Rattle.rules.specs.Made.{parts_of, made_image, payload_of, making_of, output_made, reading_of, output_read}
use Rattle.rules.specs.declared.NotMade.TheVariants.{VersionZero, PayloadOver128Records, OutputTooShort}
use Rattle.rules.specs.declared.NotRead.TheVariants.{NotGoodImage, OutputTooShort as ReadTooShort}
use Rattle.std.specs.Prelude.{Ok, Err}

-- of any payload of at most 14,336 bytes and any version from 1 on that has 64 bits; and of any bytes that are a good image
pub record ImagesWrittenOut : Type 0 where
  pub over_128_records : (payload : List ℕ) → (128 <? parts_of payload) ≡ (14336 <? length payload)
  pub good_image_law : (payload : List ℕ) (version : ℕ) → length payload ≤ 14336 → 1 ≤ version → version ≤ 18446744073709551615
      → image_of (made_image payload version) ≡ Ok version
  pub reads_back : (payload : List ℕ) (version : ℕ) → length payload ≤ 14336 → 1 ≤ version → version ≤ 18446744073709551615
      → payload_of (made_image payload version) ≡ payload ++ replicate (parts_of payload * 112 - length payload) 0
  pub its_bytes : (payload : List ℕ) (version : ℕ) → length payload ≤ 14336 → 1 ≤ version → version ≤ 18446744073709551615
      → ((place : ℕ) → get_or payload place 0 < 256) → (place : ℕ) → get_or (made_image payload version) place 0 < 256
  pub made_again : (image : List ℕ) (version : ℕ) → ((place : ℕ) → get_or image place 0 < 256) → image_of image ≡ Ok version
      → made_image (payload_of image) version ≡ image
  -- the lengths: n is the least number from 1 on with room for the payload; n times 128 bytes are made, and for n times 128 bytes n times 112 are read back
  pub one_part : (payload : List ℕ) → 1 ≤ parts_of payload
  pub room_for_all : (payload : List ℕ) → length payload ≤ parts_of payload * 112
  pub the_least : (payload : List ℕ) (n : ℕ) → 1 ≤ n → length payload ≤ n * 112 → parts_of payload ≤ n
  pub made_size : (payload : List ℕ) (version : ℕ) → length (made_image payload version) ≡ parts_of payload * 128
  pub read_size : (image : List ℕ) → length (payload_of image) ≡ length image / 128 * 112
  -- so many bytes are told as are written, and they fit
  pub made_told : (version : ℕ) (payload output : List ℕ) (told : ℕ) → making_of version payload output ≡ Ok told → told ≡ length (made_image payload version)
  pub made_fits : (version : ℕ) (payload output : List ℕ) (told : ℕ) → making_of version payload output ≡ Ok told → told ≤ length output
  pub read_told : (image output : List ℕ) (told : ℕ) → reading_of image output ≡ Ok told → told ≡ length (payload_of image)
  pub read_fits : (image output : List ℕ) (told : ℕ) → reading_of image output ≡ Ok told → told ≤ length output

-- an empty payload, version 1: one record, number 0 of 1
abbrev pub empty_image : List ℕ
empty_image = 0 ∷ 0 ∷ 1 ∷ 0 ∷ 1 ∷ 0 ∷ 0 ∷ 0 ∷ 0 ∷ 0 ∷ 0 ∷ 0 ∷ replicate 112 0 ++ (1 ∷ 0 ∷ 1 ∷ 0 ∷ [])

-- 113 bytes 255, the largest version: two records, and sums that wrap
abbrev pub full_image : List ℕ
full_image =
    0 ∷ 0 ∷ 2 ∷ 0 ∷ 255 ∷ 255 ∷ 255 ∷ 255 ∷ 255 ∷ 255 ∷ 255 ∷ 255 ∷ replicate 112 255
    ++ (226 ∷ 255 ∷ 1 ∷ 0 ∷ 1 ∷ 0 ∷ 2 ∷ 0 ∷ 255 ∷ 255 ∷ 255 ∷ 255 ∷ 255 ∷ 255 ∷ 255 ∷ 255 ∷ 255 ∷ replicate 111 0)
    ++ (254 ∷ 0 ∷ 2 ∷ 0 ∷ [])

pub record ImagesHeld : Type 0 where
  pub empty_payload : made_image [] 1 ≡ empty_image
  pub last_part_padded : made_image (replicate 113 255) 18446744073709551615 ≡ full_image
  pub padding_read_back : payload_of full_image ≡ replicate 113 255 ++ replicate 111 0
  pub cut_anywhere : map (λ size. parts_of (replicate size 7)) (0 ∷ 1 ∷ 111 ∷ 112 ∷ 113 ∷ 14335 ∷ 14336 ∷ 14337 ∷ [])
      ≡ 1 ∷ 1 ∷ 1 ∷ 1 ∷ 2 ∷ 128 ∷ 128 ∷ 129 ∷ []
  -- making: each refusal before the next
  pub version_first : making_of 0 (replicate 14337 7) [] ≡ Err VersionZero
  pub then_records : making_of 1 (replicate 14337 7) [] ≡ Err PayloadOver128Records
  pub then_room : making_of 1 (replicate 113 7) (replicate 255 9) ≡ Err OutputTooShort
  pub else_made : making_of 1 (replicate 113 7) (replicate 256 9) ≡ Ok 256
  pub rest_stays : output_made (Ok 128) empty_image (replicate 130 9) ≡ empty_image ++ (9 ∷ 9 ∷ [])
  pub none_written : map (λ answer. output_made answer empty_image (9 ∷ [])) (Err VersionZero ∷ Err PayloadOver128Records ∷ Err OutputTooShort ∷ [])
      ≡ replicate 3 (9 ∷ [])
  -- reading back, likewise
  pub good_first : reading_of [] [] ≡ Err NotGoodImage
  pub then_room_too : reading_of full_image (replicate 223 9) ≡ Err ReadTooShort
  pub else_read : reading_of full_image (replicate 224 9) ≡ Ok 224
  pub rest_stays_too : output_read (Ok 1) (7 ∷ []) (9 ∷ 9 ∷ []) ≡ 7 ∷ 9 ∷ []
  pub none_written_too : map (λ answer. output_read answer (7 ∷ []) (9 ∷ [])) (Err NotGoodImage ∷ Err ReadTooShort ∷ []) ≡ replicate 2 (9 ∷ [])
