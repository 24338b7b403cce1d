-- The walk over an image's records: where it stops, and what it has left.
-- Assumes nothing.
use Rattle.std.specs.Prelude.{ℕ, zero, suc, ◌≡◌, ◌+◌, ◌-◌, ◌*◌, ◌/◌, ◌≤◌, List, length, take, drop}
use Rattle.std.specs.Prelude.{if◌then◌else◌}
use Rattle.rules.specs.Image.{image_record_size, good_record}

-- the number of the first record that is not good, of so many from number i on; where all are good, the number after theirs
unfoldable pub first_bad : (records i n version : ℕ) → List ℕ → ℕ
first_bad zero i n version bytes = i
first_bad (suc records) i n version bytes =
    if good_record i n version (take image_record_size bytes) then first_bad records (i + 1) n version (drop image_record_size bytes) else i

-- so many records as these bytes hold, and the number of the first of them, where they are the last of n
abbrev pub records_left : List ℕ → ℕ
records_left left = length left / image_record_size

abbrev pub number_left : (n : ℕ) → List ℕ → ℕ
number_left n left = n - records_left left

-- what a walk over the n records has left: whole records, the last ones, and the first bad one of these is that of the whole
pub record Left (n version : ℕ) (left bytes : List ℕ) : Type 0 where
  pub whole : length left ≡ records_left left * image_record_size
  pub few : records_left left ≤ n
  pub part : left ≡ drop (number_left n left * image_record_size) bytes
  pub same : first_bad (records_left left) (number_left n left) n version left ≡ first_bad n 0 n version bytes
