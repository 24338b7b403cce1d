-- Document 02, "T-03 Failed, but why?": the first fault of the received bytes, by the tests of a good image (Image.antt) in the request's order. Readings:
-- docs/DECISIONS.md, B9 and B10.
-- Assumes nothing.
use Rattle.std.specs.Prelude.{ℕ, zero, suc, ◌+◌, ◌*◌, ◌<◌}
use mathlib.Core.{Path.◌≡◌, Logic.◌↔◌, Bool.{Bool, true, false, not}, List.List}
use Rattle.std.specs.Prelude.{take, drop}
use Rattle.std.specs.Prelude.{if◌then◌else◌}
use Rattle.rules.specs.Tests.{◌=?◌}
use Rattle.rules.specs.Image.{image_record_size, number_field, count_field, version_field, sum_field, number_in, records_of, record_sum, good_record, good_size, version_of, good_image}
use Rattle.rules.specs.declared.{Reason.Reason, Reason.TheVariants.{Size, Number, Count, Version, Sum}, FirstFault.FirstFault}
use Rattle.std.specs.Prelude.{Result, Ok, Err}

-- "1 to 5", in the order in which the request names them (B9)
abbrev pub reason_number : Reason → ℕ
reason_number Size = 1
reason_number Number = 2
reason_number Count = 3
reason_number Version = 4
reason_number Sum = 5

-- no fault, or a reason "with the record's number"
infix 20 ◌of_record◌
pub data Fault : Type 0 where
  none : Fault
  ◌of_record◌ : (reason : Reason) (i : ℕ) → Fault

-- The tests of record i. Number: "bytes 0 to 1 hold i"
abbrev pub number_test : (i : ℕ) → List ℕ → Bool
number_test i bytes = number_in number_field bytes =? i

-- count: "2 to 3 hold n"
abbrev pub count_test : (n : ℕ) → List ℕ → Bool
count_test n bytes = number_in count_field bytes =? n

-- version: "4 to 11 a nonzero version, the same in all": record 0's is nonzero, and every later one's is record 0's (B10)
abbrev pub version_test : (i version : ℕ) → List ℕ → Bool
version_test i version bytes = if i =? 0 then not (number_in version_field bytes =? 0) else (number_in version_field bytes =? version)

-- sum: "124 to 127 the sum of the 31 words before it, which wraps at 32 bits"
abbrev pub sum_test : List ℕ → Bool
sum_test bytes = number_in sum_field bytes =? record_sum bytes

-- "number, count, version, sum, in that order within a record"
unfoldable pub record_fault : (i n version : ℕ) → List ℕ → Fault
record_fault i n version bytes =
    if not (number_test i bytes) then Number of_record i
    else if not (count_test n bytes) then Count of_record i
    else if not (version_test i version bytes) then Version of_record i
    else if not (sum_test bytes) then Sum of_record i
    else none

-- the earlier of two: the later one is named only where there is no earlier
infixr 15 ◌or_else◌
abbrev pub ◌or_else◌ : Fault → Fault → Fault
none or_else later = later
(reason of_record i) or_else later = reason of_record i

-- "from record 0 up": so many records, from number i on
unfoldable pub records_fault : (records i n version : ℕ) → List ℕ → Fault
records_fault zero i n version bytes = none
records_fault (suc records) i n version bytes =
    record_fault i n version (take image_record_size bytes) or_else records_fault records (i + 1) n version (drop image_record_size bytes)

-- "The image check shall name the first fault: size, then from record 0 up .., with the record's number, 0 for size."
unfoldable pub first_fault : List ℕ → Fault
first_fault bytes =
    if not (good_size bytes) then Size of_record 0
    else records_fault (records_of bytes) 0 (records_of bytes) (version_of bytes) bytes

-- what bytes are, the library's `Result`: `Ok version` a good image with this version, `Err fault` a bad one with this first fault
abbrev pub Image : Type 0
Image = Result ℕ FirstFault

abbrev pub bad_image : (reason : Reason) (i : ℕ) → Image
bad_image reason i = Err (record { reason = reason; number = i })

-- what bytes with this first fault are, and with this version in their first record
abbrev pub judged : Fault → (version : ℕ) → Image
judged none version = Ok version
judged (reason of_record i) version = bad_image reason i

-- what the received bytes are: a good image with its version, or a bad one with its first fault
unfoldable pub image_of : List ℕ → Image
image_of bytes = judged (first_fault bytes) (version_of bytes)

-- record i of the bytes
abbrev pub image_record : (i : ℕ) → List ℕ → List ℕ
image_record i bytes = take image_record_size (drop (i * image_record_size) bytes)

-- the test of each reason, in record i; that of the size is the same for every record
abbrev pub passes : Reason → (i : ℕ) → List ℕ → Bool
passes Size i bytes = good_size bytes
passes Number i bytes = number_test i (image_record i bytes)
passes Count i bytes = count_test (records_of bytes) (image_record i bytes)
passes Version i bytes = version_test i (version_of bytes) (image_record i bytes)
passes Sum i bytes = sum_test (image_record i bytes)

-- "with the record's number, 0 for size": any other reason is of one of the n records
abbrev pub Named : Reason → (i : ℕ) → List ℕ → Type 0
Named Size i bytes = i ≡ 0
Named Number i bytes = i < records_of bytes
Named Count i bytes = i < records_of bytes
Named Version i bytes = i < records_of bytes
Named Sum i bytes = i < records_of bytes

-- "the first fault": its test fails, every test before it in its record passes, every test of every record before passes, and so these are good.
pub record First (reason : Reason) (i : ℕ) (bytes : List ℕ) : Type 0 where
  pub named : Named reason i bytes
  pub fails : passes reason i bytes ≡ false
  pub tests_before : (test : Reason) → reason_number test < reason_number reason → passes test i bytes ≡ true
  pub records_before : (j : ℕ) → j < i → (test : Reason) → passes test j bytes ≡ true
  pub good_before : (j : ℕ) → j < i → good_record j (records_of bytes) (version_of bytes) (image_record j bytes) ≡ true

-- T-03: there is no fault exactly where the image is good; a fault is named exactly where it is the first; and so what the bytes are is good with a version
-- exactly where they are a good image with it, bad with a fault exactly where that is their first.
pub record RequestT03 : Type 0 where
  pub none_if_good : (bytes : List ℕ) → (first_fault bytes ≡ none) ↔ (good_image bytes ≡ true)
  pub the_first : (bytes : List ℕ) (reason : Reason) (i : ℕ) → (first_fault bytes ≡ (reason of_record i)) ↔ First reason i bytes
  pub good : (bytes : List ℕ) (version : ℕ) → (image_of bytes ≡ Ok version) ↔ ((good_image bytes ≡ true) × (version ≡ version_of bytes))
  pub bad : (bytes : List ℕ) (reason : Reason) (i : ℕ) → (image_of bytes ≡ bad_image reason i) ↔ First reason i bytes
