-- Document 02, T-03, written out by the bytes of an image, and what becomes of a record that was kept before it, before T-08 or before T-09, field by field; and by
-- examples. A record from before T-09 is possible by itself where it is with its own context for the number of contexts given out.
-- Assumes nothing.
use Rattle.std.specs.Prelude.{ℕ, ◌*◌, ◌/◌, ◌%◌, ◌^◌, ◌<◌}
use mathlib.Core.{Path.◌≡◌, Logic.{◌↔◌, ◌⊎◌}, Bool.{Bool, true, false, not, ◌&&◌}, List.{List, [], ◌∷◌, map}}
use Rattle.std.specs.Prelude.{length, take, drop}
use Rattle.std.specs.Prelude.{if◌then◌else◌}
use Rattle.rules.specs.Tests.{◌≤?◌, ◌=?◌}
use Rattle.rules.specs.{Bytes.{number_at}, Image.{sum_of_words, good_record, good_image}, Record.{possible, possible_parts, possible_cabinet, fresh}, Health.{trips}, Adopt.{possible_before, adoptable, adopted, adopted_cabinet}}
use Rattle.rules.specs.With.{◌with_transfer◌, ◌with_thresholds◌, ◌with_reading◌, ◌with_trips◌, ◌with_phase◌, ◌with_current◌, ◌with_received◌, ◌with_reason◌}
use Rattle.rules.specs.Fault.{reason_number, none, ◌of_record◌, first_fault, image_of}
use Rattle.rules.specs.declared.{Reason.Reason, Reason.TheVariants.{Size, Number, Count, Version, Sum}}
use Rattle.rules.specs.declared.{Phase.Phase, Phase.TheVariants.{Idle, Failed}, Device.Device}
use Rattle.rules_demands.specs.Health.{measured}
use Rattle.std.specs.Prelude.{Ok, Err}

-- the tests, by the bytes: the size; then of record i its number, its count, its version and its sum
abbrev pub sized : List ℕ → Bool
sized bytes = (length bytes =? length bytes / 128 * 128) && (1 ≤? length bytes / 128) && (length bytes / 128 ≤? 128)

abbrev pub bytes_of : (i : ℕ) → List ℕ → List ℕ
bytes_of i bytes = take 128 (drop (i * 128) bytes)

abbrev pub numbered : (i : ℕ) → List ℕ → Bool
numbered i bytes = number_at 2 0 (bytes_of i bytes) =? i

abbrev pub counted : (i : ℕ) → List ℕ → Bool
counted i bytes = number_at 2 2 (bytes_of i bytes) =? length bytes / 128

abbrev pub versioned : (i : ℕ) → List ℕ → Bool
versioned i bytes = if i =? 0 then not (number_at 8 4 (bytes_of i bytes) =? 0) else (number_at 8 4 (bytes_of i bytes) =? number_at 8 4 bytes)

abbrev pub summed : (i : ℕ) → List ℕ → Bool
summed i bytes = number_at 4 124 (bytes_of i bytes) =? sum_of_words 31 (bytes_of i bytes) % 2 ^ 32

-- the size is good, record i is there, and every test of every record before it passes
pub record Reached (i : ℕ) (bytes : List ℕ) : Type 0 where
  pub size_passes : sized bytes ≡ true
  pub is_there : i < length bytes / 128
  pub numbers_pass : (j : ℕ) → j < i → numbered j bytes ≡ true
  pub counts_pass : (j : ℕ) → j < i → counted j bytes ≡ true
  pub versions_pass : (j : ℕ) → j < i → versioned j bytes ≡ true
  pub sums_pass : (j : ℕ) → j < i → summed j bytes ≡ true

pub record FaultsWrittenOut : Type 0 where
  pub no_fault : (bytes : List ℕ) → (first_fault bytes ≡ none) ↔ (good_image bytes ≡ true)
  pub size : (bytes : List ℕ) (i : ℕ) → (first_fault bytes ≡ (Size of_record i)) ↔ ((sized bytes ≡ false) × (i ≡ 0))
  pub number : (bytes : List ℕ) (i : ℕ) → (first_fault bytes ≡ (Number of_record i)) ↔ (Reached i bytes × (numbered i bytes ≡ false))
  pub count : (bytes : List ℕ) (i : ℕ) → (first_fault bytes ≡ (Count of_record i)) ↔ (Reached i bytes × (numbered i bytes ≡ true) × (counted i bytes ≡ false))
  pub version : (bytes : List ℕ) (i : ℕ) → (first_fault bytes ≡ (Version of_record i)) ↔ (Reached i bytes × (numbered i bytes ≡ true) × (counted i bytes ≡ true) × (versioned i bytes ≡ false))
  pub sum : (bytes : List ℕ) (i : ℕ) → (first_fault bytes ≡ (Sum of_record i)) ↔ (Reached i bytes × (numbered i bytes ≡ true) × (counted i bytes ≡ true) × (versioned i bytes ≡ true) × (summed i bytes ≡ false))
  pub good_before : (bytes : List ℕ) (reason : Reason) (i j : ℕ) → first_fault bytes ≡ (reason of_record i) → j < i
      → good_record j (length bytes / 128) (number_at 8 4 bytes) (bytes_of j bytes) ≡ true
  pub told_good : (bytes : List ℕ) (version : ℕ) → (image_of bytes ≡ Ok version) ↔ ((good_image bytes ≡ true) × (version ≡ number_at 8 4 bytes))
  pub told_bad : (bytes : List ℕ) (reason : Reason) (i : ℕ) → (image_of bytes ≡ Err (record { reason = reason; number = i })) ↔ (first_fault bytes ≡ (reason of_record i))

-- Idle with received 0, with the trips byte that thresholds and reading give, and nothing else changes
pub record IdleWithAllElse (d taken : Device) : Type 0 where
  pub idle : taken.transfer.phase ≡ Idle
  pub received_0 : taken.transfer.received ≡ 0
  pub same_current : taken.transfer.current ≡ d.transfer.current
  pub same_ticks : taken.transfer.ticks ≡ d.transfer.ticks
  pub same_running : taken.transfer.running ≡ d.transfer.running
  pub same_staged : taken.transfer.staged ≡ d.transfer.staged
  pub same_reason : taken.transfer.reason ≡ d.transfer.reason
  pub same_faulty : taken.transfer.faulty ≡ d.transfer.faulty
  pub same_security : taken.security ≡ d.security
  pub same_thresholds : taken.thresholds ≡ d.thresholds
  pub same_reading : taken.reading ≡ d.reading
  pub byte_due : taken.trips ≡ trips d.thresholds d.reading

pub record AdoptingWrittenOut : Type 0 where
  -- one that is possible; one that T-04's library kept; one of the library before T-03
  pub possible_then : (d : Device) → (possible d.transfer.current d ≡ true) ⊎ ((d.trips ≡ 0) × ((possible_parts d.transfer.current d ≡ true) ⊎ (possible_before d ≡ true))) → possible_cabinet (adopted_cabinet d) ≡ true
  pub failed_alone : (d : Device) → possible_before d ≡ true → (possible_parts d.transfer.current d ≡ false) ↔ (d.transfer.phase ≡ Failed)
  pub stays : (d : Device) → possible d.transfer.current d ≡ true → adopted d ≡ d
  pub byte_alone : (d : Device) → possible d.transfer.current d ≡ false → possible_parts d.transfer.current d ≡ true → adopted d ≡ d with_trips (trips d.thresholds d.reading)
  pub becomes_idle : (d : Device) → possible_parts d.transfer.current d ≡ false → IdleWithAllElse d (adopted d)
  pub none_else : (d : Device) → adoptable d ≡ true → possible d.transfer.current d ≡ false → (d.trips ≡ 0) × ((possible_parts d.transfer.current d ≡ true) ⊎ (possible_before d ≡ true))
  -- module 0 of a cabinet that has given out as many contexts; module 1 is fresh
  pub as_module_0 : (d : Device) → (adopted_cabinet d).first ≡ adopted d
  pub as_many_given : (d : Device) → (adopted_cabinet d).contexts ≡ d.transfer.current
  pub its_own_kept : (d : Device) → (adopted_cabinet d).first.transfer.current ≡ d.transfer.current
  pub module_1_fresh : (d : Device) → (adopted_cabinet d).second ≡ fresh

-- a record in this phase whose context is this one, with this reason: as it was kept, and as it is taken over
abbrev pub kept : Phase → (context received reason : ℕ) → Device
kept phase context received reason =
    fresh with_transfer (fresh.transfer with_phase phase with_current context with_received received with_reason reason)

-- fresh but for thresholds whose first alarm the reading of zeros trips, with this byte
abbrev pub tripping : (byte : ℕ) → Device
tripping byte = fresh with_thresholds (record { enable = 1; spare = 20; media = 0; controller = 0 }) with_trips byte

pub record FaultsHeld : Type 0 where
  pub numbers : map reason_number (Size ∷ Number ∷ Count ∷ Version ∷ Sum ∷ []) ≡ 1 ∷ 2 ∷ 3 ∷ 4 ∷ 5 ∷ []
  pub adopted_ones : map adopted (kept Failed 7 128 0 ∷ kept Failed 7 128 5 ∷ kept Idle 7 0 0 ∷ []) ≡ kept Idle 7 0 0 ∷ kept Failed 7 128 5 ∷ kept Idle 7 0 0 ∷ []
  pub no_others : map adoptable (kept Failed 0 128 0 ∷ kept Failed 7 128 6 ∷ kept Idle 7 0 1 ∷ kept Idle 7 1 0 ∷ []) ≡ false ∷ false ∷ false ∷ false ∷ []
  -- nor one in Failed without a reason that has a reading, which no library before kept
  pub none_with_reading : map (λ new. adoptable (kept Failed 7 128 0 with_reading new)) (measured 1 0 0 ∷ measured 0 1 0 ∷ measured 0 0 1 ∷ []) ≡ false ∷ false ∷ false ∷ []
  -- one with an alarm that its reading trips, from before the byte was kept; with any other byte it is none of those
  pub adopted_bytes : map (λ byte. adoptable (tripping byte)) (0 ∷ 1 ∷ 2 ∷ 3 ∷ []) ≡ true ∷ true ∷ false ∷ false ∷ []
  pub byte_given : adopted (tripping 0) ≡ tripping 1
  -- and in Failed without a reason: Idle, with the byte too
  pub both : adopted (kept Failed 7 128 0 with_thresholds (tripping 0).thresholds) ≡ (kept Idle 7 0 0 with_thresholds (tripping 0).thresholds with_trips 1)
  pub in_a_cabinet : adopted_cabinet (kept Failed 7 128 0) ≡ record { contexts = 7; first = kept Idle 7 0 0; second = fresh }
