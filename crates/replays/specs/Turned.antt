-- A turn of the replay program: the text that it writes, and the cabinet after it.
-- Assumes nothing.
use Rattle.std.specs.Prelude.{◌≡◌, List, [], ◌∷◌, ◌++◌, ℕ, ◌+◌}
use Rattle.rules.specs.Record.{Whole}
use Rattle.rules.specs.Log.{records_in, short_tail}
use Rattle.rules.specs.Replay.{replay_start, heading, record_lines, tail_line, last_lines, replay_text}
use Rattle.replay_play.specs.declared.Played.{Played}
use Rattle.replay_play.specs.Replayed.{Replayed}
use Rattle.replay_log.specs.Places.{part_played}
use Rattle.replay_step.specs.Parts.{log_of, WholeRecords}
use Rattle.program_logs.specs.declared.{Turn.Turn, Turn.TheVariants.{Beginning, Part, End, Unreadable, Nothing}}

-- the room for the text of a turn: 120 lines of at most 96 bytes, in whole pages of 4,096
abbrev pub text_room : ℕ
text_room = 12288

-- a log begins with the heading; each part has its records' lines, and the end the line of a short tail and the last lines
abbrev pub turn_text : Turn → (number : ℕ) → Whole → (part : List ℕ) → List ℕ
turn_text Beginning number w part = heading
turn_text Part number w part = record_lines number w part (records_in part)
turn_text (End short) number w part = tail_line number short ++ last_lines w.cabinet
turn_text Unreadable number w part = []
turn_text Nothing number w part = []

-- a log begins with two fresh modules, and each part goes on where the one before it left
abbrev pub turned : Turn → Whole → (part : List ℕ) → Whole
turned Beginning w part = replay_start
turned Part w part = part_played w part
turned (End short) w part = w
turned Unreadable w part = w
turned Nothing w part = w

abbrev pub TurnReplayed : Turn → (number : ℕ) → Whole → (part old new area : List ℕ) → Played → Type 0
TurnReplayed turn number w part old new area played = Replayed text_room (turn_text turn number w part) (turned turn w part) old 0 new area played

-- The text of a log that is read in these parts and a last one: what is written turn by turn, joined.
abbrev pub parts_text : (number : ℕ) → Whole → (parts : List (List ℕ)) (last : List ℕ) → List ℕ
parts_text number w [] last =
    turn_text Part number w last ++ turn_text (End (short_tail last)) (number + records_in last) (turned Part w last) []
parts_text number w (part ∷ parts) last = turn_text Part number w part ++ parts_text (number + records_in part) (turned Part w part) parts last

abbrev pub turns_text : (parts : List (List ℕ)) (last : List ℕ) → List ℕ
turns_text parts last = turn_text Beginning 0 replay_start [] ++ parts_text 0 (turned Beginning replay_start []) parts last

-- Heading, parts and end make the text of document 01, where every part but the last is whole records.
abbrev pub TextOfTurns : Type 0
TextOfTurns = (parts : List (List ℕ)) (last : List ℕ) → WholeRecords parts → turns_text parts last ≡ replay_text (log_of parts last)
