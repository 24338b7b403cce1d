-- Document 02, "T-04 Health readings and function 1". Readings: docs/DECISIONS.md, B14 to B20.
-- Assumes nothing.
use Rattle.std.specs.Prelude.{ℕ, ◌+◌, ◌%◌, ◌<◌}
use mathlib.Core.{Path.◌≡◌, Logic.◌↔◌, Bool.{Bool, true, ◌&&◌}, List.{List, ◌++◌}}
use Rattle.std.specs.Prelude.{ℤ, pos, neg_ℤ, ◌<ℤ◌}
use Rattle.std.specs.Prelude.{if◌then◌else◌}
use Rattle.rules.specs.Tests.{◌≤?◌, ◌<?◌}
use Rattle.rules.specs.Bytes.{le, zeros, bit, on}
use Rattle.rules.specs.declared.{Thresholds.Thresholds, Reading.Reading}

-- "A health reading (spare, media and controller temperature words)"
abbrev pub new_reading : (spare media controller : ℕ) → Reading
new_reading spare media controller = record { spare = spare; media = media; controller = controller }

-- A temperature word: "sign in bit 15, size in bits 0 to 14, sixteenths of a degree" (document 01), as Table 3-2 of document 001 has it. Its size;
abbrev pub size : (word : ℕ) → ℕ
size word = word % 32768

-- its sign, "(1 = negative, 0 = positive)"
abbrev pub negative : (word : ℕ) → Bool
negative word = 32768 ≤? word

-- what a word measures, in sixteenths of a degree: the integer of its sign and size; 8000h, the sign on and the size 0, is 0
abbrev pub sixteenths : (word : ℕ) → ℤ
sixteenths word = if negative word then neg_ℤ (pos (size word)) else pos (size word)

-- "words compare by sign and size, and 8000h equals 0": the word is above the other
unfoldable pub above : (word other : ℕ) → Bool
above word other =
    if negative word then negative other && size word <? size other
    else if negative other then 0 <? size word + size other
    else size other <? size word

-- "An alarm trips if enabled and spare is below, or temperature is above, its threshold;" enable bits 0 to 2 are spare, media, controller (document 01)
abbrev pub spare_trips : Thresholds → Reading → Bool
spare_trips h r = on 0 h.enable && r.spare <? h.spare

abbrev pub media_trips : Thresholds → Reading → Bool
media_trips h r = on 1 h.enable && above r.media h.media

abbrev pub controller_trips : Thresholds → Reading → Bool
controller_trips h r = on 2 h.enable && above r.controller h.controller

-- "the trips byte", Table 3-2: "Bit[0] - Spare Blocks Remaining Trip", "Bit[1] – NVDIMM Media Temperature Trip", "Bit[2] – NVDIMM Controller Temperature
-- Trip", "Bits[7:3] - Reserved, shall return 0."
unfoldable pub trips : Thresholds → Reading → ℕ
trips h r = bit 0 (spare_trips h r) + bit 1 (media_trips h r) + bit 2 (controller_trips h r)

-- "with only these three fields and the trips byte marked valid": Table 3-2's validity flags, bit 1 for the spare, bits 3 and 4 for the media's and the
-- controller's temperature, bit 9 for the trips
abbrev pub valid : ℕ
valid = bit 1 true + bit 3 true + bit 4 true + bit 9 true

-- "Function 1 .. answers 132 bytes by Table 3-2 of source document 001, .. all others zero": after the status its 128 bytes. Flags (0 to 3), reserved (4 to 7),
-- health status (8), spare (9), percentage used (10), trips (11), media (12, 13) and controller temperature (14, 15); and what the table has besides, from 16 to 127
abbrev pub answer_with : (trips_byte : ℕ) → Reading → List ℕ
answer_with trips_byte r =
    le 4 valid ++ zeros 4 ++ zeros 1 ++ le 1 r.spare ++ zeros 1 ++ le 1 trips_byte ++ le 2 r.media ++ le 2 r.controller ++ zeros 112

-- with the byte that thresholds and reading give: what T-04 answered, and what every answer must be (T-08)
abbrev pub health_answer : Thresholds → Reading → List ℕ
health_answer h r = answer_with (trips h r) r

-- The comparison of words is the order of the integers that they measure, and 8000h measures what 0000h does. And each bit of the trips byte is on exactly when
-- its alarm is enabled and the reading is below, or above, its threshold; no other bit is on.
pub record RequestT04 : Type 0 where
  pub in_order : (word other : ℕ) → (above word other ≡ true) ↔ (sixteenths other <ℤ sixteenths word)
  pub minus_zero : sixteenths 0x8000 ≡ sixteenths 0x0000
  pub spare_trips_law : (h : Thresholds) (r : Reading) → (on 0 (trips h r) ≡ true) ↔ ((on 0 h.enable ≡ true) × (r.spare < h.spare))
  pub media_trips_law : (h : Thresholds) (r : Reading)
      → (on 1 (trips h r) ≡ true) ↔ ((on 1 h.enable ≡ true) × (sixteenths h.media <ℤ sixteenths r.media))
  pub controller_trips_law : (h : Thresholds) (r : Reading)
      → (on 2 (trips h r) ≡ true) ↔ ((on 2 h.enable ≡ true) × (sixteenths h.controller <ℤ sixteenths r.controller))
  pub no_other_bit : (h : Thresholds) (r : Reading) → trips h r < 8
