-- A walk of a log: at which places a reader looks, step by step, and what it finds there; and what the log holds, place by place.
-- Assumes nothing.
use Rattle.std.specs.Prelude.{ℕ, zero, suc, ◌+◌, ◌*◌}
use mathlib.Core.{Bool.Bool, List.{List, [], ◌∷◌, ◌++◌}}
use Rattle.std.specs.Prelude.{length, drop}
use Rattle.std.specs.Prelude.{if◌then◌else◌}
use Rattle.rules.specs.Log.{record_size, entry_of, records_in, record_at, short_tail}
use Rattle.log_reader.specs.declared.{Found.Found, Found.TheVariants.{Record, Short}, LogReader.LogReader}
use Rattle.log_reader.specs.Reader.{step_of}

-- so many steps of a reader: the place of each, and what was found there
abbrev pub walk : (steps : ℕ) → LogReader → List (ℕ × Found)
walk zero r = []
walk (suc steps) r = (r.place, (step_of r).found) ∷ walk steps (step_of r).reader

-- so many records of a log, from record j on, each with its place
abbrev pub records_from : (log : List ℕ) (j count : ℕ) → List (ℕ × Found)
records_from log j zero = []
records_from log j (suc count) = (j, Record (entry_of (record_at log j))) ∷ records_from log (suc j) count

-- a short tail, where there is one
abbrev pub tail_at : (place : ℕ) (short : Bool) → List (ℕ × Found)
tail_at place short = if short then (place, Short) ∷ [] else []

-- the tail of a log stands after its records
abbrev pub tail_of : (log : List ℕ) → List (ℕ × Found)
tail_of log = tail_at (records_in log) (short_tail log)

-- the first place past all of it
abbrev pub end_of : (log : List ℕ) → ℕ
end_of log = records_in log + length (tail_of log)

-- the bytes of so many records, from record j on, one after the other
abbrev pub bytes_from : (log : List ℕ) (j count : ℕ) → List ℕ
bytes_from log j zero = []
bytes_from log j (suc count) = record_at log j ++ bytes_from log (suc j) count

-- the bytes after the records
abbrev pub tail_bytes : (log : List ℕ) → List ℕ
tail_bytes log = drop (records_in log * record_size) log
