-- Document 02, T-06, written out, and by examples: two logs that differ in each field, in none and in all, cut inside a record and inside a field; and a list that is
-- just long enough, one place too short, and longer. Written out are the theorem's clauses, in the words of Compare.antt: what is equal, and which field differs,
-- by single bytes; what is listed, by places' numbers.
-- Assumes nothing.
use Rattle.std.specs.Prelude.{ℕ, suc, ◌+◌, ◌*◌, ◌/◌, ◌<◌, ◌≤◌}
use mathlib.Core.{Path.◌≡◌, Logic.◌↔◌, Bool.{Bool, true, false, not, ◌&&◌, ◌||◌}, List.{List, [], ◌∷◌, ◌++◌, map}}
use Rattle.std.specs.Prelude.{length, take, drop, get_or}
use Rattle.rules.specs.{Tests.{◌<?◌, ◌=?◌}, Bytes.{le, zeros}, Text.ascii}
use Rattle.rules.specs.Compare.{fields_differing, Difference, places, leading, differences, place_equal, place_fields, rest, left, comparison, list_after, rest_after, entries, list_room, comparison_text, compare_text}
use Rattle.rules.specs.declared.{Compared.Compared, ListFull.ListFull}
use Rattle.std.specs.Prelude.{Result, Ok, Err}

-- the numbers of differing places
abbrev pub numbers : List Difference → List ℕ
numbers ds = map (λ d. d.place) ds

abbrev pub among : ℕ → List ℕ → Bool
among n [] = false
among n (m ∷ ms) = m =? n || among n ms

-- the bytes of place j that both logs have, from one of the place's 544 up to another, are the same
abbrev pub SameBytes : (first second : List ℕ) (j from to : ℕ) → Type 0
SameBytes first second j from to =
    (k : ℕ) → j * 544 + from ≤ k → k < j * 544 + to → k < length first → k < length second → get_or first k 0 ≡ get_or second k 0

-- whether field i of place j, counted from 0, differs
abbrev pub differs : (first second : List ℕ) (j i : ℕ) → Bool
differs first second j i = get_or (place_fields first second j) i true

-- what a comparison comes to, each number in its field: a report, or a list that is full
abbrev pub reported : (leading differing left : ℕ) → Result Compared ListFull
reported leading differing left = Ok (record { leading = leading; differing = differing; left = left })

abbrev pub full_list : (differing : ℕ) → Result Compared ListFull
full_list differing = Err (record { differing = differing })

-- of any two logs
pub record ComparisonsWrittenOut : Type 0 where
  pub means_equal : (first second : List ℕ) → differences first second ≡ [] → left first second ≡ 0 → first ≡ second
  pub none_in_equal : (log : List ℕ) → differences log log ≡ []
  pub none_left_in_equal : (log : List ℕ) → left log log ≡ 0
  pub report_means_equal : (first second : List ℕ) (room lead : ℕ) → comparison first second room ≡ reported lead 0 0 → first ≡ second
  pub report_of_equal : (log : List ℕ) (room : ℕ) → comparison log log room ≡ reported ((length log + 543) / 544) 0 0
  -- a place is equal exactly if all bytes compared there are: those of its 544 that both logs have
  pub bytes_equal : (first second : List ℕ) (j k : ℕ) → place_equal first second j ≡ true → j * 544 ≤ k → k < j * 544 + 544 → k < length first → k < length second
      → get_or first k 0 ≡ get_or second k 0
  pub equal_by_bytes : (first second : List ℕ) (j : ℕ)
      → ((k : ℕ) → j * 544 ≤ k → k < j * 544 + 544 → k < length first → k < length second → get_or first k 0 ≡ get_or second k 0)
      → place_equal first second j ≡ true
  -- a place is equal exactly if none of its six fields differs
  pub no_field : (first second : List ℕ) (j : ℕ) → place_equal first second j ≡ true → place_fields first second j ≡ false ∷ false ∷ false ∷ false ∷ false ∷ false ∷ []
  pub equal_by_fields : (first second : List ℕ) (j : ℕ) → place_fields first second j ≡ false ∷ false ∷ false ∷ false ∷ false ∷ false ∷ [] → place_equal first second j ≡ true
  -- a field does not differ exactly if no byte of it differs that is compared: kind 0, host 1, revision 2 and 3, function 4 and 5, length 6 and 7, request 8 to 543
  pub kind_by_bytes : (first second : List ℕ) (j : ℕ) → (differs first second j 0 ≡ false) ↔ SameBytes first second j 0 1
  pub host_by_bytes : (first second : List ℕ) (j : ℕ) → (differs first second j 1 ≡ false) ↔ SameBytes first second j 1 2
  pub revision_by_bytes : (first second : List ℕ) (j : ℕ) → (differs first second j 2 ≡ false) ↔ SameBytes first second j 2 4
  pub function_by_bytes : (first second : List ℕ) (j : ℕ) → (differs first second j 3 ≡ false) ↔ SameBytes first second j 4 6
  pub length_by_bytes : (first second : List ℕ) (j : ℕ) → (differs first second j 4 ≡ false) ↔ SameBytes first second j 6 8
  pub request_by_bytes : (first second : List ℕ) (j : ℕ) → (differs first second j 5 ≡ false) ↔ SameBytes first second j 8 544
  pub a_byte_compared : (first second : List ℕ) (j : ℕ) → j < places first second → (j * 544 < length first) × (j * 544 < length second)
  pub every_byte_compared : (first second : List ℕ) (k : ℕ) → k < length first → k < length second → k < places first second * 544
  pub listed : (first second : List ℕ) (j : ℕ) → among j (numbers (differences first second)) ≡ (j <? places first second && not (place_equal first second j))
  pub in_order : (first second : List ℕ) (i : ℕ) → suc i < length (differences first second)
      → get_or (numbers (differences first second)) i 0 < get_or (numbers (differences first second)) (suc i) 0
  pub with_fields : (first second : List ℕ) → map (λ d. d.fields) (differences first second) ≡ map (place_fields first second) (numbers (differences first second))
  pub leads : (first second : List ℕ) (j : ℕ) → j < leading first second → place_equal first second j ≡ true
  pub leads_places : (first second : List ℕ) → leading first second ≤ places first second
  pub stops : (first second : List ℕ) → leading first second < places first second → place_equal first second (leading first second) ≡ false
  pub rest_of_first : (first second : List ℕ) → length second ≤ length first → rest first second ≡ drop (length second) first
  pub rest_of_second : (first second : List ℕ) → length first < length second → rest first second ≡ drop (length first) second
  pub makes_first : (first second : List ℕ) → length second ≤ length first → differences first second ≡ [] → second ++ rest first second ≡ first
  pub makes_second : (first second : List ℕ) → length first < length second → differences first second ≡ [] → first ++ rest first second ≡ second
  pub left_over : (first second : List ℕ) → left first second ≡ length (rest first second)
  pub holds : (first second : List ℕ) (room : ℕ) → length (differences first second) ≤ room
      → comparison first second room ≡ reported (leading first second) (length (differences first second)) (left first second)
  pub full : (first second : List ℕ) (room : ℕ) → room < length (differences first second) → comparison first second room ≡ full_list (length (differences first second))
  pub list_written : (first second list : List ℕ) → length (differences first second) ≤ length list
      → list_after first second list ≡ entries (differences first second) ++ drop (length (differences first second)) list
  pub list_stays : (first second list : List ℕ) → length list < length (differences first second) → list_after first second list ≡ list
  pub rest_handed_back : (first second : List ℕ) (room : ℕ) → length (differences first second) ≤ room
      → rest_after (comparison first second room) first second ≡ rest first second
  pub end_handed_back : (first second : List ℕ) (room : ℕ) → room < length (differences first second)
      → rest_after (comparison first second room) first second ≡ drop (length first) first

-- a record by its fields: the request's last byte is given, its others are zeros
abbrev pub record_of : (kind host revision function length last : ℕ) → List ℕ
record_of kind host revision function length last = kind ∷ host ∷ le 2 revision ++ le 2 function ++ le 2 length ++ zeros 535 ++ (last ∷ [])

abbrev pub alike : List ℕ
alike = record_of 1 1 2 13 0 0

-- records that differ from it in one field each, in its low or its high byte, and in all
abbrev pub unlike : List (List ℕ)
unlike =
    record_of 2 1 2 13 0 0
    ∷ record_of 1 2 2 13 0 0
    ∷ record_of 1 1 3 13 0 0
    ∷ record_of 1 1 0x102 13 0 0
    ∷ record_of 1 1 2 12 0 0
    ∷ record_of 1 1 2 0x10D 0 0
    ∷ record_of 1 1 2 13 1 0
    ∷ record_of 1 1 2 13 0x100 0
    ∷ record_of 1 1 2 13 0 1
    ∷ record_of 5 9 1 1 9 9
    ∷ []

-- the ship's log: eleven records alike; the laptop's: one alike, and those unlike, of which the last is cut after its host
abbrev pub ship : List ℕ
ship = alike ++ alike ++ alike ++ alike ++ alike ++ alike ++ alike ++ alike ++ alike ++ alike ++ alike

abbrev joined : List (List ℕ) → List ℕ
joined [] = []
joined (bytes ∷ more) = bytes ++ joined more

abbrev pub laptop : List ℕ
laptop = alike ++ take 4898 (joined unlike)

-- two shorter ones: a record that differs in the host, and behind it one byte, and three of which the first differs
abbrev pub here : List ℕ
here = alike ++ (1 ∷ [])

abbrev pub there : List ℕ
there = record_of 1 2 2 13 0 0 ++ (2 ∷ 4 ∷ 6 ∷ [])

-- a record that differs from those alike in the high bytes of its numbers, and in the first byte of its request
abbrev pub halves : List ℕ
halves = 1 ∷ 1 ∷ le 2 0x102 ++ le 2 0x10D ++ le 2 0x100 ++ (1 ∷ zeros 535)

pub record ComparisonsHeld : Type 0 where
  pub six_fields : map (λ bytes. fields_differing alike bytes) (alike ∷ unlike)
      ≡ (false ∷ false ∷ false ∷ false ∷ false ∷ false ∷ [])
      ∷ (true ∷ false ∷ false ∷ false ∷ false ∷ false ∷ [])
      ∷ (false ∷ true ∷ false ∷ false ∷ false ∷ false ∷ [])
      ∷ (false ∷ false ∷ true ∷ false ∷ false ∷ false ∷ [])
      ∷ (false ∷ false ∷ true ∷ false ∷ false ∷ false ∷ [])
      ∷ (false ∷ false ∷ false ∷ true ∷ false ∷ false ∷ [])
      ∷ (false ∷ false ∷ false ∷ true ∷ false ∷ false ∷ [])
      ∷ (false ∷ false ∷ false ∷ false ∷ true ∷ false ∷ [])
      ∷ (false ∷ false ∷ false ∷ false ∷ true ∷ false ∷ [])
      ∷ (false ∷ false ∷ false ∷ false ∷ false ∷ true ∷ [])
      ∷ (true ∷ true ∷ true ∷ true ∷ true ∷ true ∷ [])
      ∷ []
  pub printed : compare_text ship laptop
      ≡ ascii
      "leading 1\n1 kind\n2 host\n3 revision\n4 revision\n5 function\n6 function\n7 length\n8 length\n9 request\n10 kind host\nleft 542\n"
  -- cut inside a field, which then differs by the bytes that are compared
  pub cut_fields : map (λ size. compare_text (take size alike) halves) (3 ∷ 5 ∷ 7 ∷ 8 ∷ 9 ∷ [])
      ≡ ascii "leading 1\nleft 541\n"
      ∷ ascii "leading 0\n0 revision\nleft 539\n"
      ∷ ascii "leading 0\n0 revision function\nleft 537\n"
      ∷ ascii "leading 0\n0 revision function length\nleft 536\n"
      ∷ ascii "leading 0\n0 revision function length request\nleft 535\n"
      ∷ []
  pub byte_8 : fields_differing alike (take 8 alike ++ (1 ∷ zeros 535)) ≡ false ∷ false ∷ false ∷ false ∷ false ∷ true ∷ []
  -- of one length, and a place that is alike behind one that is not
  pub alike_behind : compare_text (alike ++ halves ++ alike) (alike ++ alike ++ alike) ≡ ascii "leading 1\n1 revision function length request\nleft 0\n"
  pub both_empty : compare_text [] [] ≡ ascii "leading 0\nleft 0\n"
  pub room_is : list_room ≡ 1000
  pub equal_printed : compare_text here here ≡ ascii "leading 2\nleft 0\n"
  pub all_fields_printed : comparison_text (reported 0 1 7) (record { place = 1001; fields = true ∷ true ∷ true ∷ true ∷ true ∷ true ∷ [] } ∷ [])
      ≡ ascii "leading 0\n1001 kind host revision function length request\nleft 7\n"
  pub full_printed : comparison_text (full_list 1001) [] ≡ ascii "full 1001\n"
  -- a cut place leads where its bytes are equal, and has at least one byte
  pub cut_leads : map (λ size. comparison (take size here) here 0) (0 ∷ 1 ∷ 543 ∷ 544 ∷ 545 ∷ [])
      ≡ reported 0 0 545 ∷ reported 1 0 544 ∷ reported 1 0 2 ∷ reported 1 0 1 ∷ reported 2 0 0 ∷ []
  pub just_full : map (comparison here there) (0 ∷ 1 ∷ 2 ∷ 3 ∷ []) ≡ full_list 2 ∷ full_list 2 ∷ reported 0 2 2 ∷ reported 0 2 2 ∷ []
  pub not_touched : list_after here there (7 ∷ []) ≡ 7 ∷ []
  pub written : list_after here there (7 ∷ 7 ∷ 7 ∷ []) ≡ 2 ∷ 65 ∷ 7 ∷ []
  pub from_first : rest_after (comparison there here 2) there here ≡ 4 ∷ 6 ∷ []
  pub from_second : rest_after (comparison here there 2) here there ≡ 4 ∷ 6 ∷ []
  pub full_hands_none : rest_after (comparison there here 1) there here ≡ []
