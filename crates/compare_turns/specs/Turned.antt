-- Document 02, T-06: two logs that are read side by side in parts: what is counted and listed turn by turn, and what is told at the end.
-- Assumes nothing.
use Rattle.std.specs.Prelude.{ℕ, min, ◌+◌, ◌*◌, ◌-◌, ◌≤◌}
use mathlib.Core.{Path.◌≡◌, Logic.◌⊎◌, List.{List, [], ◌∷◌, ◌++◌}}
use Rattle.std.specs.Prelude.{length, take}
use Rattle.std.specs.Prelude.{if◌then◌else◌}
use Rattle.rules.specs.{Tests.{◌≤?◌}, Bytes.zeros}
use Rattle.rules.specs.Compare.{places, leading, differences, left, list_room, list_after, compare_text}
use Rattle.program_logs.specs.Turns.{part_size}
use Rattle.compare_places.{specs.SoFar.{none_places, part_counted, part_listed}}
use Rattle.compare_text.specs.Lines.{report_text}
use Rattle.compare_turns.specs.declared.Told.{Told}
use Rattle.rules.specs.Compare.{Comparison, report, list_full}

-- the room for the text: 1,000 lines of at most 64 bytes, and two more
abbrev pub text_room : ℕ
text_room = 64064

abbrev pub most_turns : ℕ
most_turns = 1099511627776

-- what was counted stays in 64 bits: a turn passes 120 places and a part of 65,280 bytes at most
abbrev pub Standing : (turns : ℕ) → Told → Type 0
Standing turns t =
    (t.counted.places + 120 * turns ≤ 120 * most_turns) × (t.counted.differing ≤ t.counted.places) × (t.left + 65280 * turns ≤ 65280 * most_turns)

-- before the first turn
abbrev pub begun : Told
begun = record { counted = none_places; left = 0 }

-- how much of two parts is compared
abbrev pub both_have : (first second : ℕ) → ℕ
both_have first second = min first second

-- one turn: what both parts have is compared, and what one has more is left over
abbrev pub turned : Told → (a b : List ℕ) (first second : ℕ) → Told
turned t a b first second =
    record {
      counted = part_counted t.counted (take (both_have first second) a) (take (both_have first second) b);
      left = t.left + (first - both_have first second) + (second - both_have first second);
    }

abbrev pub turn_listed : Told → (a b : List ℕ) (first second : ℕ) (list : List ℕ) → List ℕ
turn_listed t a b first second list = part_listed t.counted (take (both_have first second) a) (take (both_have first second) b) list

-- the report, with a list that holds 1,000 places
abbrev pub told_of : Told → Comparison
told_of t = if t.counted.differing ≤? list_room then report t.counted.leading t.counted.differing t.left else list_full t.counted.differing

-- what is kept: what was told, and the list
pub record Kept : Type 0 where
  pub told : Told
  pub list : List ℕ

abbrev pub kept_none : Kept
kept_none = record { told = begun; list = zeros list_room }

-- the parts of one turn; and each log, its parts one after the other
pub record Parts : Type 0 where
  pub of_first : List ℕ
  pub of_second : List ℕ

abbrev pub first_log : List Parts → List ℕ
first_log [] = []
first_log (turn ∷ turns) = turn.of_first ++ first_log turns

abbrev pub second_log : List Parts → List ℕ
second_log [] = []
second_log (turn ∷ turns) = turn.of_second ++ second_log turns

-- the turns one after the other
abbrev pub kept_after : Kept → List Parts → Kept
kept_after k [] = k
kept_after k (turn ∷ turns) =
    kept_after
    (record {
      told = turned k.told turn.of_first turn.of_second (length turn.of_first) (length turn.of_second);
      list = turn_listed k.told turn.of_first turn.of_second (length turn.of_first) (length turn.of_second) k.list;
    })
    turns

-- A part that fills the buffer may be followed by more of its log. Any other is the last.
abbrev pub Follows : (part behind : List ℕ) → Type 0
Follows part behind = (length part ≡ part_size) ⊎ ((length part ≤ part_size) × (behind ≡ []))

abbrev pub SideBySide : List Parts → Type 0
SideBySide [] = Unit {0}
SideBySide (turn ∷ turns) = Follows turn.of_first (first_log turns) × Follows turn.of_second (second_log turns) × SideBySide turns

-- What is kept after any turns is what the definition says of the logs so far, and its text is theirs.
pub record ComparisonOfTurns (turns : List Parts) : Type 0 where
  pub places_so_far : (kept_after kept_none turns).told.counted.places ≡ places (first_log turns) (second_log turns)
  pub leading_so_far : (kept_after kept_none turns).told.counted.leading ≡ leading (first_log turns) (second_log turns)
  pub differing_so_far : (kept_after kept_none turns).told.counted.differing ≡ length (differences (first_log turns) (second_log turns))
  pub left_so_far : (kept_after kept_none turns).told.left ≡ left (first_log turns) (second_log turns)
  pub list_so_far : length (differences (first_log turns) (second_log turns)) ≤ list_room
      → (kept_after kept_none turns).list ≡ list_after (first_log turns) (second_log turns) (zeros list_room)
  pub text_so_far : report_text (told_of (kept_after kept_none turns).told) (kept_after kept_none turns).list ≡ compare_text (first_log turns) (second_log turns)

abbrev pub TextOfTurns : Type 0
TextOfTurns = (turns : List Parts) → SideBySide turns → ComparisonOfTurns turns
