-- Document 02, T-04, written out, and by examples: words compared by their heights over the lowest word, and by what they measure; each alarm by its own bit,
-- threshold and value; and the bytes of function 1.
-- Assumes nothing.
use Rattle.std.specs.Prelude.{ℕ, ◌+◌, ◌-◌, ◌<◌}
use mathlib.Core.{Path.◌≡◌, Bool.{true, false}, List.{[], ◌∷◌, ◌++◌, map}}
use lib.{ListN.replicate, IntN.{pos, neg_ℤ}, Signed.◌<ℤ◌}
use Rattle.std.specs.Prelude.{if◌then◌else◌}
use Rattle.rules.specs.Tests.{◌<?◌}
use Rattle.rules.specs.Bytes.{on}
use Rattle.rules.specs.Health.{sixteenths, above, trips, health_answer}
use Rattle.rules.specs.declared.{Thresholds.Thresholds, Reading.Reading}

-- how high a word stands over FFFFh, the lowest
abbrev pub height : (word : ℕ) → ℕ
height word = if 32767 <? word then 65535 - word else 32767 + word

pub record HealthWrittenOut : Type 0 where
  -- proved without the words of T-04's statement, by the definition
  pub higher : (word other : ℕ) → word < 65536 → other < 65536 → above word other ≡ (height other <? height word)
  pub above_only : (word other : ℕ) → above word other ≡ true → sixteenths other <ℤ sixteenths word
  pub above_where : (word other : ℕ) → sixteenths other <ℤ sixteenths word → above word other ≡ true
  pub minus_zero : sixteenths 0x8000 ≡ sixteenths 0x0000
  pub bit_0_only : (h : Thresholds) (r : Reading) → on 0 (trips h r) ≡ true → (on 0 h.enable ≡ true) × (r.spare < h.spare)
  pub bit_0_where : (h : Thresholds) (r : Reading) → on 0 h.enable ≡ true → r.spare < h.spare → on 0 (trips h r) ≡ true
  pub bit_1_only : (h : Thresholds) (r : Reading) → on 1 (trips h r) ≡ true → (on 1 h.enable ≡ true) × (sixteenths h.media <ℤ sixteenths r.media)
  pub bit_1_where : (h : Thresholds) (r : Reading) → on 1 h.enable ≡ true → sixteenths h.media <ℤ sixteenths r.media → on 1 (trips h r) ≡ true
  pub bit_2_only : (h : Thresholds) (r : Reading) → on 2 (trips h r) ≡ true → (on 2 h.enable ≡ true) × (sixteenths h.controller <ℤ sixteenths r.controller)
  pub bit_2_where : (h : Thresholds) (r : Reading) → on 2 h.enable ≡ true → sixteenths h.controller <ℤ sixteenths r.controller → on 2 (trips h r) ≡ true
  pub three_bits : (h : Thresholds) (r : Reading) → trips h r < 8

-- a reading, each of its three words in its field
abbrev pub measured : (spare media controller : ℕ) → Reading
measured spare media controller = record { spare = spare; media = media; controller = controller }

-- these alarms enabled; spare 20, media 0500h and controller 8001h are the thresholds
abbrev pub enabled : ℕ → Thresholds
enabled bits = record { enable = bits; spare = 20; media = 0x0500; controller = 0x8001 }

abbrev pub tripped_by : (spare media controller : ℕ) (bits : ℕ) → ℕ
tripped_by spare media controller bits = trips (enabled bits) (measured spare media controller)

pub record HealthHeld : Type 0 where
  -- what words measure
  pub measures : map sixteenths (0x0000 ∷ 0x0501 ∷ 0x8001 ∷ 0xFFFF ∷ []) ≡ pos 0 ∷ pos 1281 ∷ neg_ℤ (pos 1) ∷ neg_ℤ (pos 32767) ∷ []
  -- each side of 0, and 8000h beside 0
  pub words : map (λ word. above word 0x0000) (0x8001 ∷ 0x8000 ∷ 0x0000 ∷ 0x0001 ∷ 0x7FFF ∷ 0xFFFF ∷ []) ≡ false ∷ false ∷ false ∷ true ∷ true ∷ false ∷ []
  pub beside_8000h : map (λ word. above word 0x8000) (0x8001 ∷ 0x8000 ∷ 0x0000 ∷ 0x0001 ∷ 0x7FFF ∷ 0xFFFF ∷ []) ≡ false ∷ false ∷ false ∷ true ∷ true ∷ false ∷ []
  -- an alarm that is off trips nothing; each trips its own bit
  pub each : map (tripped_by 19 0x0501 0x8000) (0 ∷ 1 ∷ 2 ∷ 3 ∷ 4 ∷ 5 ∷ 6 ∷ 7 ∷ []) ≡ 0 ∷ 1 ∷ 2 ∷ 3 ∷ 4 ∷ 5 ∷ 6 ∷ 7 ∷ []
  -- what is at its threshold has not tripped
  pub at_threshold : map (tripped_by 20 0x0500 0x8001) (0 ∷ 1 ∷ 2 ∷ 4 ∷ 7 ∷ []) ≡ 0 ∷ 0 ∷ 0 ∷ 0 ∷ 0 ∷ []
  -- one value past its threshold trips its own alarm alone; on the other side of it none does
  pub alone : tripped_by 19 0x0500 0x8001 7 ∷ tripped_by 20 0x0501 0x8001 7 ∷ tripped_by 20 0x0500 0x8000 7 ∷ tripped_by 21 0x04FF 0x8002 7 ∷ [] ≡ 1 ∷ 2 ∷ 4 ∷ 0 ∷ []
  pub bytes : health_answer (enabled 7) (measured 19 0x0501 0x8000)
      ≡ (0x1A ∷ 0x02 ∷ 0x00 ∷ 0x00 ∷ 0 ∷ 0 ∷ 0 ∷ 0 ∷ 0 ∷ 19 ∷ 0 ∷ 7 ∷ 0x01 ∷ 0x05 ∷ 0x00 ∷ 0x80 ∷ []) ++ replicate 112 0
