-- What a place of a log and a part of it come to in a replay: the lines that were written, and the cabinet after them.
-- Assumes nothing.
use mathlib.Core.{Bool.true, List.{List, []}}
use Rattle.std.specs.Prelude.{ℕ}
use Rattle.rules.specs.Record.{Whole}
use Rattle.rules.specs.Log.{request_in, records_in, record_at}
use Rattle.rules.specs.Replay.{entry_line, record_lines, whole_after, tail_line}
use Rattle.log_reader.specs.declared.{Found.Found, Found.TheVariants.{Record, Short, End}}
use Rattle.log_reader.specs.Reader.{stood_at}
use Rattle.text.specs.Wrote.{line_room}
use Rattle.replay_play.specs.declared.Played.{Played}
use Rattle.replay_play.specs.Replayed.{Replayed}
use Rattle.rules.specs.Replay as Replay

-- what the reader finds at a place of a log: a record is played and has its line, a short tail has its line, the end has none
abbrev pub found_line : (number : ℕ) → Whole → Found → (bytes : List ℕ) → List ℕ
found_line number w (Record entry) bytes = entry_line number w entry (request_in bytes)
found_line number w Short bytes = tail_line number true
found_line number w End bytes = []

abbrev pub found_played : Whole → Found → (bytes : List ℕ) → Whole
found_played w (Record entry) bytes = Replay.played w entry (request_in bytes)
found_played w Short bytes = w
found_played w End bytes = w

-- what stands at a place of a log was played, and its line was written
abbrev pub PlaceReplayed : (number : ℕ) → Whole → (log : List ℕ) (place : ℕ) (old : List ℕ) (at : ℕ) (new area : List ℕ) → Played → Type 0
PlaceReplayed number w log place old at new area played =
    Replayed line_room (found_line number w (stood_at log place).found (record_at log place)) (found_played w (stood_at log place).found (record_at log place)) old at new area played

-- the cabinet after the records of a part of a log
abbrev pub part_played : Whole → (part : List ℕ) → Whole
part_played w part = whole_after w part (records_in part)

-- the records of a part of a log were played, and their lines were written from the front on, in no more room than so much
abbrev pub PartReplayed : (most number : ℕ) → Whole → (part old new area : List ℕ) → Played → Type 0
PartReplayed most number w part old new area played =
    Replayed most (record_lines number w part (records_in part)) (part_played w part) old 0 new area played
