-- A log that comes in parts: what a program that goes part by part writes for it.
-- Assumes nothing.
use mathlib.Core.{Bool.not, List.{List, [], ◌∷◌, ◌++◌}}
use Rattle.std.specs.Prelude.{ℕ, ◌+◌, length}
use Rattle.rules.specs.Tests.{◌=?◌}
use Rattle.rules.specs.Record.{Whole}
use Rattle.rules.specs.Log.{records_in}
use Rattle.rules.specs.Replay.{replay_start, record_lines, whole_after, heading, tail_line, last_lines}

-- the records of all parts
abbrev pub records_over : (parts : List (List ℕ)) → ℕ
records_over [] = 0
records_over (part ∷ parts) = records_in part + records_over parts

-- the cabinet after all parts: each part goes on where the one before it left
abbrev pub whole_over : Whole → (parts : List (List ℕ)) → Whole
whole_over w [] = w
whole_over w (part ∷ parts) = whole_over (whole_after w part (records_in part)) parts

-- the lines of all parts, written part by part
abbrev pub lines_over : (number : ℕ) → Whole → (parts : List (List ℕ)) → List ℕ
lines_over number w [] = []
lines_over number w (part ∷ parts) =
    record_lines number w part (records_in part) ++ lines_over (number + records_in part) (whole_after w part (records_in part)) parts

-- the whole text: the heading, the lines of each part, the line of a tail that is not empty, and the last lines
abbrev pub text_over : (parts : List (List ℕ)) (tail : List ℕ) → List ℕ
text_over parts tail =
    heading
    ++ lines_over 0 replay_start parts
    ++ tail_line (records_over parts) (not (length tail =? 0))
    ++ last_lines (whole_over replay_start parts).cabinet
