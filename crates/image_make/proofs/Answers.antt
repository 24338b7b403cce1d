-- Laws of the answers: each refusal where its turn is.
-- Assumes nothing.
use mathlib.Core.{Path.{◌≡◌, refl, sym, ◌∙◌, ap, subst}, Bool.{Bool, true, false, true≢false}, List.List}
use Prim.Native.Nat.{ℕ, ◌≤◌, ◌<◌, ◌*◌, ◌/◌}
use native.Mathlib.Omega.{arith}
use lib.ListN.{length}
use borrow.Author.Tests.{lt-ltb, le-ltb, ltb-false}
use Rattle.std.specs.Prelude.{if◌then◌else◌}
use Rattle.rules.{specs.Tests.{◌<?◌, ◌=?◌}, specs.Image.most_records, specs.Fault.image_of, specs.Made.{parts_of, making_of, reading_if, reading_of}}
use Rattle.rules.{specs.declared.Reason.Reason}
use Rattle.rules.proofs.page.Images.{Sized, known, over_128_records}
use Rattle.rules.specs.Fault.{Image, bad_image}
use Rattle.rules.specs.Made.{Making, ReadingBack}
use Rattle.rules.specs.declared.NotMade.TheVariants.{VersionZero, PayloadOver128Records, OutputTooShort}
use Rattle.rules.specs.declared.NotRead.TheVariants.{NotGoodImage, OutputTooShort as ReadTooShort}
use Rattle.std.specs.Prelude.{Ok, Err, is_ok}

module _ (version : ℕ) (payload output : List ℕ) where
  pub version_refused : (version =? 0) ≡ true → Err VersionZero ≡ making_of version payload output
  unfolding making_of
  version_refused zero = rw zero refl

  module _ (some : (version =? 0) ≡ false) where
    pub payload_refused : 14336 < length payload → Err PayloadOver128Records ≡ making_of version payload output
    unfolding making_of
    payload_refused long = rw (some, over_128_records payload, lt-ltb 14336 (length payload) long) refl

    module _ (fits : length payload ≤ 14336) {n : ℕ} (count : n ≡ parts_of payload) where
      few : (most_records <? parts_of payload) ≡ false
      few = over_128_records payload ∙ le-ltb 14336 (length payload) fits

      pub output_refused : length output < n * 128 → Err OutputTooShort ≡ making_of version payload output
      unfolding making_of
      output_refused short = rw (some, few, ← count, lt-ltb (length output) (n * 128) short) refl

      pub made : n * 128 ≤ length output → Ok (n * 128) ≡ making_of version payload output
      unfolding making_of
      made room = rw (some, few, ← count, le-ltb (length output) (n * 128) room) refl

-- an image that was found good is 1 to 128 whole records
pub good_is_sized : (image : List ℕ) (found : Image) → found ≡ image_of image → true ≡ is_ok found → Sized (length image)
good_is_sized image (Ok version) is good = (known image version (sym is)).sized
good_is_sized image (Err fault) is good = absurd (true≢false good)

-- how many bytes an answer tells of
abbrev made_bytes : Making → ℕ
made_bytes (Ok length) = length
made_bytes (Err reason) = 0

abbrev read_bytes : ReadingBack → ℕ
read_bytes (Ok length) = length
read_bytes (Err reason) = 0

-- they are at most those of 128 records, and the output has room for them
pub record Inside (bytes room : ℕ) : Type 0 where
  pub few : bytes ≤ 16384
  pub fits : bytes ≤ room

pub made_inside : (version : ℕ) (payload output : List ℕ) {bytes : ℕ} → making_of version payload output ≡ Ok bytes → Inside bytes (length output)
unfolding making_of
made_inside version payload output e =
    subst (λ (bytes : ℕ). Inside bytes (length output)) (ap made_bytes e)
    (go (version =? 0) (most_records <? parts_of payload) refl (length output <? parts_of payload * 128) refl)
  where
    go : (none : Bool) (many : Bool) → (most_records <? parts_of payload) ≡ many → (short : Bool) → (length output <? parts_of payload * 128) ≡ short
        → Inside (made_bytes (if none then Err VersionZero else if many then Err PayloadOver128Records else if short then Err OutputTooShort else Ok (parts_of payload * 128)))
        (length output)
    go true many m short s = record { few = omega arith; fits = omega arith }
    go false true m short s = record { few = omega arith; fits = omega arith }
    go false false m true s = record { few = omega arith; fits = omega arith }
    go false false m false s =
        record { few = omega (arith, ltb-false 128 (parts_of payload) m); fits = ltb-false (length output) (parts_of payload * 128) s }

pub read_inside : (image output : List ℕ) {bytes : ℕ} → reading_of image output ≡ Ok bytes → Inside bytes (length output)
unfolding reading_of
read_inside image output e = subst (λ (bytes : ℕ). Inside bytes (length output)) (ap read_bytes e) (go (image_of image) refl)
  where
    sized : (short : Bool) → (length output <? length image / 128 * 112) ≡ short → length image / 128 ≤ 128
        → Inside (read_bytes (if short then Err ReadTooShort else Ok (length image / 128 * 112))) (length output)
    sized true s few = record { few = omega arith; fits = omega arith }
    sized false s few = record { few = omega (arith, few); fits = ltb-false (length output) (length image / 128 * 112) s }

    go : (found : Image) → image_of image ≡ found → Inside (read_bytes (reading_if found image output)) (length output)
    go (Ok version) good = sized (length output <? length image / 128 * 112) refl (known image version good).sized.few
    go (Err fault) bad = record { few = omega arith; fits = omega arith }
