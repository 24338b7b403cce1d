-- The report's text from the entries of the difference list, which are numbers.
-- Assumes nothing.
use Rattle.std.specs.Prelude.{Ok, Err, ℕ, ◌+◌, ◌*◌, ◌/◌, ◌%◌, ◌≤◌}
use Prim.Native.String.{String}
use mathlib.Core.{Path.◌≡◌, List.{List, [], ◌∷◌, ◌++◌}}
use Rattle.std.specs.Prelude.{length, take}
use Rattle.std.specs.Prelude.{if◌then◌else◌}
use Rattle.rules.specs.{Tests.{◌=?◌}, Text.{ascii, decimal, field}}
use Rattle.rules.specs.Compare.{field_names, comparison, list_after, differences, comparison_text}
use Rattle.rules.specs.Compare.{Comparison}

-- a name, if its bit is the lowest and is on
abbrev pub name_if : (bits : ℕ) (name : List ℕ) → List ℕ
name_if bits name = if bits % 2 =? 1 then name else []

-- a name for each bit that is on, the lowest first
abbrev pub names_of : (bits : ℕ) → List String → List ℕ
names_of bits [] = []
names_of bits (name ∷ names) = (if bits % 2 =? 1 then ascii name else []) ++ names_of (bits / 2) names

unfoldable pub entry_line : (entry : ℕ) → List ℕ
entry_line entry = decimal (entry / 64) ++ names_of (entry % 64) field_names ++ ascii "\n"

abbrev pub entry_lines : (entries : List ℕ) → List ℕ
entry_lines [] = []
entry_lines (entry ∷ entries) = entry_line entry ++ entry_lines entries

abbrev pub report_text : Comparison → (list : List ℕ) → List ℕ
report_text (Ok told) list = ascii "leading " ++ field told.leading "\n" ++ entry_lines (take told.differing list) ++ ascii "left " ++ field told.left "\n"
report_text (Err told) list = ascii "full " ++ field told.differing "\n"

-- the room of a differing place's line, and of the two lines with a number
abbrev pub line_room : ℕ
line_room = 64

abbrev pub report_room : Comparison → ℕ
report_room (Ok told) = 64 * told.differing + 64
report_room (Err told) = 64

-- the entries are there
abbrev pub EntriesThere : Comparison → (list : List ℕ) → Type 0
EntriesThere (Ok told) list = told.differing ≤ length list
EntriesThere (Err told) list = Unit {0}

-- The entries that a comparison leaves in a list make the text that its differing places have, and a list that is full is not looked at.
abbrev pub TextOfReport : Type 0
TextOfReport =
    (first second list : List ℕ)
    → report_text (comparison first second (length list)) (list_after first second list) ≡ comparison_text (comparison first second (length list)) (differences first second)
