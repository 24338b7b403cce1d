-- Document 02, "T-06 Ship's log against laptop's log": "A technician lays two logs side by side." Readings: docs/DECISIONS.md, B23 to B28 and B63.
-- Assumes nothing.
use Rattle.std.specs.Prelude.{ℕ, zero, suc, ◌+◌, ◌-◌, ◌*◌, ◌/◌, ◌<◌, ◌≤◌}
use Prim.Native.String.{String}
use mathlib.Core.{Path.◌≡◌, Bool.{Bool, true, false, not, ◌&&◌, ◌||◌}, List.{List, [], ◌∷◌, ◌++◌}}
use Rattle.std.specs.Prelude.{length, take, drop}
use Rattle.std.specs.Prelude.{if◌then◌else◌}
use Rattle.rules.specs.Tests.{◌≤?◌, ◌<?◌, ◌=?◌}
use Rattle.rules.specs.Bytes.{same?, splice}
use Rattle.rules.specs.Text.{ascii, decimal, field}
use Rattle.rules.specs.Log.{record_size, record_at, kind_bytes, host_bytes, revision_bytes, function_bytes, length_bytes, request_bytes}
use Rattle.rules.specs.declared.{Compared.Compared, ListFull.ListFull}
use Rattle.std.specs.Prelude.{Result, Ok, Err}

-- "byte by byte up to the shorter log's end, where the rest begins": what of a log is compared with another, and what is not
abbrev pub compared : (log other : List ℕ) → List ℕ
compared log other = take (length other) log

abbrev pub beyond : (log other : List ℕ) → List ℕ
beyond log other = drop (length other) log

-- "Records are compared by place, bad ones and a short tail too": place j has the bytes of record j, and the last may be cut. A place has at least one byte
-- compared (B24), so that n bytes have n / 544 places, rounded up.
abbrev pub places_in : (bytes : List ℕ) → ℕ
places_in bytes = (length bytes + (record_size - 1)) / record_size

-- "a place is equal if all bytes compared there are"
abbrev pub equal_at : (first second : List ℕ) (j : ℕ) → Bool
equal_at first second j = same? (record_at first j) (record_at second j)

-- "which of the replay's six fields differ" (B23): kind, host, revision, function, request length, request with its padding. A field differs if a compared byte
-- of it does (B25).
abbrev pub fields_differing : (first second : List ℕ) → List Bool
fields_differing first second =
    not (same? (kind_bytes first) (kind_bytes second))
    ∷ not (same? (host_bytes first) (host_bytes second))
    ∷ not (same? (revision_bytes first) (revision_bytes second))
    ∷ not (same? (function_bytes first) (function_bytes second))
    ∷ not (same? (length_bytes first) (length_bytes second))
    ∷ not (same? (request_bytes first) (request_bytes second))
    ∷ []

abbrev pub fields_at : (first second : List ℕ) (j : ℕ) → List Bool
fields_at first second j = fields_differing (record_at first j) (record_at second j)

-- "each differing place with which of the replay's six fields differ"
pub record Difference : Type 0 where
  pub place : ℕ
  pub fields : List Bool

abbrev pub difference_at : (number : ℕ) (first second : List ℕ) → List Difference
difference_at number first second =
    if same? first second then [] else record { place = number; fields = fields_differing first second } ∷ []

-- the differences in the first j places of what is compared, the first of which has the number given: 0, but where logs are read part by part
unfoldable pub differences_to : (number : ℕ) (first second : List ℕ) (j : ℕ) → List Difference
differences_to number first second zero = []
differences_to number first second (suc j) =
    differences_to number first second j ++ difference_at (number + j) (record_at first j) (record_at second j)

-- "how many leading records are equal": one place more leads if it is equal and all before it lead, that is, if the count so far is its own number
abbrev pub leading_on : (leading number : ℕ) → (equal : Bool) → ℕ
leading_on leading number equal = if leading =? number && equal then number + 1 else leading

-- how many lead after the first j places of what is compared, where `leading` led before them
unfoldable pub leading_to : (leading number : ℕ) (first second : List ℕ) (j : ℕ) → ℕ
leading_to leading number first second zero = leading
leading_to leading number first second (suc j) =
    leading_on (leading_to leading number first second j) (number + j) (equal_at first second j)

-- what a comparison comes to, the library's `Result`: `Ok` with a report, `Err` where the list is full
abbrev pub Comparison : Type 0
Comparison = Result Compared ListFull

abbrev pub report : (leading differing left : ℕ) → Comparison
report leading differing left = Ok (record { leading = leading; differing = differing; left = left })

abbrev pub list_full : (differing : ℕ) → Comparison
list_full differing = Err (record { differing = differing })

module _ (first second : List ℕ) where
  -- of the two logs: their places, the leading places that are equal, and the differing places
  abbrev pub places : ℕ
  places = places_in (compared first second)

  abbrev pub leading : ℕ
  leading = leading_to 0 0 (compared first second) (compared second first) places

  abbrev pub differences : List Difference
  differences = differences_to 0 (compared first second) (compared second first) places

  -- whether a place is equal, and which fields differ there
  abbrev pub place_equal : (j : ℕ) → Bool
  place_equal j = equal_at (compared first second) (compared second first) j

  abbrev pub place_fields : (j : ℕ) → List Bool
  place_fields j = fields_at (compared first second) (compared second first) j

  -- "hand back the rest of whichever log is longer, as it lies in that log. Equal lengths hand back the empty end of the first."
  abbrev pub rest : List ℕ
  rest = if length second ≤? length first then beyond first second else beyond second first

  -- "how many bytes are left over"
  abbrev pub left : ℕ
  left = length rest

  -- "Refusals: difference list full, exactly if more places differ than it holds, saying how many differ in all"
  abbrev pub comparison : (room : ℕ) → Comparison
  comparison room = if length differences ≤? room then report leading (length differences) left else list_full (length differences)

-- An entry of the difference list is one number: the place, times 64, and a bit for each field that differs: kind 1, host 2, revision 4, function 8, length 16,
-- request 32.
abbrev pub field_bits : List Bool → ℕ
field_bits [] = 0
field_bits (differs ∷ fields) = (if differs then 1 else 0) + 2 * field_bits fields

abbrev pub entry : Difference → ℕ
entry d = d.place * 64 + field_bits d.fields

abbrev pub entries : List Difference → List ℕ
entries [] = []
entries (d ∷ ds) = entry d ∷ entries ds

-- The list afterwards: the differing places in its front, and what is past them stays; "the list stays as it came" where it is full.
abbrev pub list_after : (first second list : List ℕ) → List ℕ
list_after first second list =
    if length (differences first second) ≤? length list then splice 0 (entries (differences first second)) list else list

-- what is handed back with a report: the rest, or where the list is full "the empty end of the first"
abbrev pub rest_after : Comparison → (first second : List ℕ) → List ℕ
rest_after (Ok told) first second = rest first second
rest_after (Err told) first second = drop (length first) first

-- The report as text, with a list that holds 1,000 places: the words of docs/DECISIONS.md (B27, the report as text).
abbrev pub list_room : ℕ
list_room = 1000

abbrev pub field_names : List String
field_names = " kind" ∷ " host" ∷ " revision" ∷ " function" ∷ " length" ∷ " request" ∷ []

abbrev pub named : List Bool → List String → List ℕ
named [] names = []
named (differs ∷ fields) [] = []
named (differs ∷ fields) (name ∷ names) = (if differs then ascii name else []) ++ named fields names

abbrev pub difference_line : Difference → List ℕ
difference_line d = decimal d.place ++ named d.fields field_names ++ ascii "\n"

abbrev pub difference_lines : List Difference → List ℕ
difference_lines [] = []
difference_lines (d ∷ ds) = difference_line d ++ difference_lines ds

abbrev pub comparison_text : Comparison → List Difference → List ℕ
comparison_text (Ok told) ds = ascii "leading " ++ field told.leading "\n" ++ difference_lines ds ++ ascii "left " ++ field told.left "\n"
comparison_text (Err told) ds = ascii "full " ++ field told.differing "\n"

unfoldable pub compare_text : (first second : List ℕ) → List ℕ
compare_text first second = comparison_text (comparison first second list_room) (differences first second)

-- Whether a place is listed; that the places rise from a number on, so that each is listed once; and that each has the fields that differ there
abbrev pub listed? : (j : ℕ) → List Difference → Bool
listed? j [] = false
listed? j (d ∷ ds) = d.place =? j || listed? j ds

abbrev pub Rising : (from : ℕ) → List Difference → Type 0
Rising from [] = Unit {0}
Rising from (d ∷ ds) = (from ≤ d.place) × Rising (suc d.place) ds

abbrev pub FieldsTold : (at : ℕ → List Bool) → List Difference → Type 0
FieldsTold at [] = Unit {0}
FieldsTold at (d ∷ ds) = (d.fields ≡ at d.place) × FieldsTold at ds

-- whether any of them is true
abbrev pub any? : List Bool → Bool
any? [] = false
any? (b ∷ bs) = b || any? bs

-- T-06 of any two logs.
pub record Laid (first second : List ℕ) : Type 0 where
  -- "A report with no difference and nothing left over means equal logs, and the other way round."
  pub means_equal : differences first second ≡ [] → left first second ≡ 0 → first ≡ second
  pub other_way_round : first ≡ second → (differences first second ≡ []) × (left first second ≡ 0)
  -- the same of the report itself, whatever the list holds: of equal logs every place leads
  pub report_means_equal : (room lead : ℕ) → comparison first second room ≡ report lead 0 0 → first ≡ second
  pub report_of_equal : (room : ℕ) → first ≡ second → comparison first second room ≡ report (places first second) 0 0
  -- a place is listed exactly if it is one that is compared and differs; in order, each once, with its fields
  pub listed : (j : ℕ) → listed? j (differences first second) ≡ (j <? places first second && not (place_equal first second j))
  pub rising : Rising 0 (differences first second)
  pub fields_told : FieldsTold (place_fields first second) (differences first second)
  -- a place differs exactly if one of its six fields does
  pub six_fields : (j : ℕ) → any? (place_fields first second j) ≡ not (place_equal first second j)
  -- the leading places are equal, and the place after them, if there is one, is not
  pub leads_places : leading first second ≤ places first second
  pub leads : (j : ℕ) → j < leading first second → place_equal first second j ≡ true
  pub stops : leading first second < places first second → place_equal first second (leading first second) ≡ false
  -- the rest is the longer log from the shorter's length on; where no place differs, the shorter's bytes with it make the longer
  pub first_longer : length second ≤ length first → (rest first second ≡ drop (length second) first) × (differences first second ≡ [] → second ++ rest first second ≡ first)
  pub second_longer : length first < length second → (rest first second ≡ drop (length first) second) × (differences first second ≡ [] → first ++ rest first second ≡ second)
  -- "difference list full, exactly if more places differ than it holds, saying how many differ in all"
  pub holds : (room : ℕ) → length (differences first second) ≤ room
      → comparison first second room ≡ report (leading first second) (length (differences first second)) (left first second)
  pub full : (room : ℕ) → room < length (differences first second) → comparison first second room ≡ list_full (length (differences first second))
  -- the differing places are the list's front, and what is past them stays; "the list stays as it came" where it is full
  pub list_written : (list : List ℕ) → length (differences first second) ≤ length list
      → list_after first second list ≡ entries (differences first second) ++ drop (length (differences first second)) list
  pub list_stays : (list : List ℕ) → length list < length (differences first second) → list_after first second list ≡ list
  -- "the empty end of the first is handed back"
  pub empty_end : (room : ℕ) → room < length (differences first second) → rest_after (comparison first second room) first second ≡ drop (length first) first

abbrev pub RequestT06 : Type 0
RequestT06 = (first second : List ℕ) → Laid first second
