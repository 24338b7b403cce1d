-- Document 01, "The replay program": what stands at a place of a log, by the definitions of a log's records and tail; a reader of a log, and its step.
-- Assumes nothing.
use Rattle.std.specs.Prelude.{ℕ, ◌+◌}
use mathlib.Core.{Bool.◌&&◌, List.List}
use Rattle.std.specs.Borrow.{Bor}
use Rattle.std.specs.Prelude.{if◌then◌else◌}
use Rattle.rules.specs.Tests.{◌<?◌, ◌=?◌}
use Rattle.rules.specs.Log.{entry_of, records_in, record_at, short_tail}
use Rattle.log_reader.specs.declared.{Found.Found, Found.TheVariants.{Record, Short, End}, Stood.Stood, LogReader.LogReader, Step.Step}

abbrev pub stands : Found → (next : ℕ) → Stood
stands found next = record { found = found; place = next }

-- The whole records stand at the places from 0 on; a short tail at the place after them; past that is the end, where nothing moves on.
unfoldable pub stood_at : (log : List ℕ) (place : ℕ) → Stood
stood_at log place =
    if place <? records_in log then stands (Record (entry_of (record_at log place))) (place + 1)
    else if place =? records_in log && short_tail log then stands Short (place + 1)
    else stands End place

abbrev pub reader_at : Bor (List ℕ) → (place : ℕ) → LogReader
reader_at log place = record { log = log; place = place }

-- a reader made from a log stands at its first place
abbrev pub reader_of : Bor (List ℕ) → LogReader
reader_of log = reader_at log 0

-- what a reader finds where it stands, and the reader moved on in the same log
abbrev pub step_of : LogReader → Step
step_of r =
    record {
      found = (stood_at r.log.now r.place).found;
      reader = reader_at r.log (stood_at r.log.now r.place).place;
    }
