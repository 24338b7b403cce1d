-- What one record of a replay comes to: the text that was written, and the cabinet after it.
-- Assumes nothing.
use mathlib.Core.{Path.◌≡◌, List.List}
use Rattle.std.specs.Prelude.{ℕ, ◌+◌, ◌≤◌}
use Rattle.rules.specs.Text.{field}
use Rattle.rules.specs.Record.{Whole, whole_of}
use Rattle.rules.specs.Replay.{call_line, record_line, record_played}
use Rattle.rules.specs.declared.{Reply.Reply, Entry.Entry, Entry.TheVariants.{Call, Tick, Power, Health, Bad}}
use Rattle.text.specs.Wrote.{Wrote, line_room}
use Rattle.replay_play.specs.declared.Played.{Played}

-- the line of an entry whose play replied this
abbrev pub reply_line : (number : ℕ) → Entry → Reply → List ℕ
reply_line number (Call named host revision index size) reply = call_line number index reply
reply_line number Tick reply = field number " tick\n"
reply_line number (Power named) reply = field number " power\n"
reply_line number (Health named new) reply = field number " health\n"
reply_line number Bad reply = field number " bad\n"

-- The text was written over old at a place, and new came of it; it took no more room than so much; the record that is answered and the area as it was left are
-- the cabinet.
pub record Replayed (most : ℕ) (text : List ℕ) (w : Whole) (old : List ℕ) (at : ℕ) (new area : List ℕ) (played : Played) : Type 0 where
  pub within : played.at ≤ at + most
  pub wrote : Wrote old at text new played.at
  pub whole_is : whole_of played.cabinet area ≡ w

-- one record of a log was played, and its line was written
abbrev pub RecordReplayed : (number : ℕ) → Whole → (bytes old : List ℕ) (at : ℕ) (new area : List ℕ) → Played → Type 0
RecordReplayed number w bytes old at new area played =
    Replayed line_room (record_line number w bytes) (record_played w bytes) old at new area played
