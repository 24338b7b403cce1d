-- Document 02, T-01: what a record, and a part of a log, comes to in a report: the tally after it, and the cabinet.
-- Assumes nothing.
use mathlib.Core.{Path.◌≡◌, Bool.{true, false, not}, List.List}
use Rattle.std.specs.Prelude.{ℕ, zero, suc}
use Rattle.rules.specs.Record.{Whole, whole_of}
use Rattle.rules.specs.Log.{records_in, record_at, short_tail}
use Rattle.rules.specs.Replay.{replay_start, record_played, whole_after}
use Rattle.rules.specs.Report.{Report, record_counted, Fed, fed_if, feed, fits}
use Rattle.report_tally.specs.Tally.{Tally, tally_of, tallied, tallied_tail}
use Rattle.report_log.specs.declared.Going.{Going}

-- the tally after the first j records of a log, which is replayed from the cabinet w
unfoldable pub tally_after : Tally → Whole → (log : List ℕ) (j : ℕ) → Tally
tally_after t w log zero = t
tally_after t w log (suc j) = tallied (record_counted (whole_after w log j) (record_at log j)) (tally_after t w log j)

-- what is counted is the tally; the record and the area are the cabinet
pub record GoesOn (t : Tally) (w : Whole) (area : List ℕ) (going : Going) : Type 0 where
  pub tally_is : tally_of going.counting ≡ t
  pub whole_is : whole_of going.cabinet area ≡ w

abbrev pub RecordTallied : Tally → Whole → (bytes area : List ℕ) → Going → Type 0
RecordTallied t w bytes area going = GoesOn (tallied (record_counted w bytes) t) (record_played w bytes) area going

abbrev pub PartTallied : Tally → Whole → (part area : List ℕ) → Going → Type 0
PartTallied t w part area going = GoesOn (tally_after t w part (records_in part)) (whole_after w part (records_in part)) area going

-- before the first record of a log
abbrev pub begun : Report → Tally
begun r = record { report = r; full = false }

-- what a tally comes to at the end of a log: where a count would have passed the largest, the report that was there is given back
abbrev pub fed_by : Tally → (was : Report) → Fed
fed_by t was = fed_if (not t.full) t.report was

-- The tally of a whole log, its tail counted too, is what feeding the log comes to.
abbrev pub FedByTally : Type 0
FedByTally = (r : Report) (log : List ℕ) → fits r ≡ true
    → fed_by (tallied_tail (short_tail log) (tally_after (begun r) replay_start log (records_in log))) r ≡ feed r log
