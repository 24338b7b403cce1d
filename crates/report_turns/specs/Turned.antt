-- Document 02, T-01: a turn of the report program: what it keeps, and what is counted of the log that it is in.
-- Assumes nothing.
use mathlib.Core.{Path.◌≡◌, Bool.{Bool, true, false, not}, List.{List, [], ◌∷◌}}
use Rattle.std.specs.Prelude.{ℕ, Result}
use Rattle.std.specs.Result.{is_err}
use Rattle.rules.specs.Record.{Whole, whole_of}
use Rattle.rules.specs.Log.{records_in, short_tail}
use Rattle.rules.specs.Replay.{replay_start, whole_after}
use Rattle.rules.specs.Report.{Report, fits, feed, fed_next}
use Rattle.program_logs.specs.declared.{Turn.Turn, Turn.TheVariants.{Beginning, Part, End, Unreadable, Nothing}}
use Rattle.replay_step.specs.Parts.{log_of, WholeRecords}
use Rattle.report_tally.specs.{Tally.{Tally, page_report, tally_of, tallied_tail}, declared.LogTooMany.LogTooMany}
use Rattle.report_log.specs.Parts.{tally_after, begun, fed_by}
use Rattle.report_turns.specs.declared.Reporting.{Reporting}

-- the report that is kept; the tally of the log, and the cabinet that its records have led to
pub record State : Type 0 where
  pub kept : Report
  pub tally : Tally
  pub whole_now : Whole

abbrev pub state_of : Reporting → State
state_of r = record { kept = page_report r.kept; tally = tally_of r.going.counting; whole_now = whole_of r.going.cabinet r.area }

-- a log begins with what is kept, "replayed from a fresh module"; each part goes on where the one before it left; at the end the report with the log is kept, or
-- the one that was, if there was a log too many; and so where the log cannot be read to its end
abbrev pub begins : Report → State
begins r = record { kept = r; tally = begun r; whole_now = replay_start }

abbrev pub turned : Turn → State → (part : List ℕ) → State
turned Beginning s part = begins s.kept
turned Part s part =
    record { kept = s.kept; tally = tally_after s.tally s.whole_now part (records_in part); whole_now = whole_after s.whole_now part (records_in part) }
turned (End short) s part = record { kept = (fed_by (tallied_tail short s.tally) s.kept).report; tally = s.tally; whole_now = s.whole_now }
turned Unreadable s part = s
turned Nothing s part = s

-- whether the turn refuses its log
abbrev pub refuses : Turn → State → Bool
refuses (End short) s = not (fed_by (tallied_tail short s.tally) s.kept).taken
refuses Beginning s = false
refuses Part s = false
refuses Unreadable s = false
refuses Nothing s = false

-- what a turn leaves, and whether it refuses the log
pub record Leaves (s : State) (refused : Bool) (r : Reporting) (result : Result Unit LogTooMany) : Type 0 where
  pub state_is : state_of r ≡ s
  pub refused_is : is_err result ≡ refused

-- The turns of a log that is read in these parts and a last one; and of one that cannot be read behind these parts.
abbrev pub parts_turned : State → (parts : List (List ℕ)) → State
parts_turned s [] = s
parts_turned s (part ∷ parts) = parts_turned (turned Part s part) parts

abbrev pub log_read : State → (parts : List (List ℕ)) (last : List ℕ) → State
log_read s parts last = turned Part (parts_turned (turned Beginning s []) parts) last

abbrev pub log_turned : State → (parts : List (List ℕ)) (last : List ℕ) → State
log_turned s parts last = turned (End (short_tail last)) (log_read s parts last) []

-- whether its last turn refuses it
abbrev pub log_refused : State → (parts : List (List ℕ)) (last : List ℕ) → Bool
log_refused s parts last = refuses (End (short_tail last)) (log_read s parts last)

abbrev pub log_left : State → (parts : List (List ℕ)) → State
log_left s parts = turned Unreadable (parts_turned (turned Beginning s []) parts) []

-- What is kept after the turns of a log is what feeding the log comes to, where every part but the last is whole records; the log is refused exactly where
-- feeding does not take it; what is kept fits again; "a log that stops being readable in its middle counts nothing".
pub record ReportOfTurns : Type 0 where
  pub fed : (s : State) (parts : List (List ℕ)) (last : List ℕ) → WholeRecords parts → fits s.kept ≡ true → (log_turned s parts last).kept ≡ fed_next s.kept (log_of parts last)
  pub refused : (s : State) (parts : List (List ℕ)) (last : List ℕ) → WholeRecords parts → fits s.kept ≡ true → log_refused s parts last ≡ not (feed s.kept (log_of parts last)).taken
  pub fits_again : (r : Report) (log : List ℕ) → fits r ≡ true → fits (fed_next r log) ≡ true
  pub unreadable : (s : State) (parts : List (List ℕ)) → (log_left s parts).kept ≡ s.kept
