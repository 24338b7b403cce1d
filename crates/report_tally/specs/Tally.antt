-- Document 02, T-01: a report while a log is counted, record by record. Once a count would pass the largest nothing more is counted: the log will be refused.
-- Assumes nothing.
use mathlib.Core.{Bool.{Bool, true, false, ◌||◌}, List.{[]}}
use Rattle.std.specs.Prelude.{ℕ, ◌+◌, ◌-◌, ◌≤◌, get_or, Result, Ok, Err}
use Rattle.std.specs.Prelude.{if◌then◌else◌}
use Rattle.std.specs.Result.{is_err}
use Rattle.rules.specs.Tests.{◌≤?◌, ◌=?◌}
use Rattle.rules.specs.Replay.{printed_status}
use Rattle.rules.specs.Report.{Report, Counted, answered, masked, ticked, powered, measured, bad, raised, with_tail, largest_count}
use Rattle.rules.specs.declared.{Reply.Reply, Entry.Entry, Entry.TheVariants.{Call, Tick, Power, Health, Bad}}
use Rattle.report_tally.specs.declared.{Report.Report as Held, Counting.Counting, LogTooMany.LogTooMany}

-- what was counted so far, and whether a count would have passed the largest
pub record Tally : Type 0 where
  pub report : Report
  pub full : Bool

-- the page's report that a report of the code is; and the tally that is held
abbrev pub page_report : Held → Report
page_report r = record { grid = r.grid; counts = r.counts }

abbrev pub tally_with : Held → Result Unit LogTooMany → Tally
tally_with r taken = record { report = page_report r; full = is_err taken }

abbrev pub tally_of : Counting → Tally
tally_of c = tally_with c.report c.taken

-- the count that a record raises
abbrev pub count_of : Counted → Report → ℕ
count_of (answered host status) r = get_or (get_or r.grid (host - 1) []) status 0
count_of masked r = r.counts.masks
count_of ticked r = r.counts.ticks
count_of powered r = r.counts.powers
count_of measured r = r.counts.readings
count_of bad r = r.counts.bads

-- the report that is there, if there was no room, or the new one
abbrev pub tallied_if : (full : Bool) (new was : Report) → Tally
tallied_if true new was = record { report = was; full = true }
tallied_if false new was = record { report = new; full = false }

-- one record more
abbrev pub tallied : Counted → Tally → Tally
tallied x t = tallied_if (t.full || (largest_count ≤? count_of x t.report)) (raised x t.report) t.report

-- the tail, if there is one
abbrev pub tallied_tail : (short : Bool) → Tally → Tally
tallied_tail short t = tallied_if (t.full || (if short then largest_count ≤? t.report.counts.shorts else false)) (with_tail short t.report) t.report

-- what an entry counts as, by what its play replied
abbrev pub counted_by : Entry → Reply → Counted
counted_by (Call named host revision index size) reply = if index =? 0 then masked else answered host (printed_status reply.verdict)
counted_by Tick reply = ticked
counted_by (Power named) reply = powered
counted_by (Health named new) reply = measured
counted_by Bad reply = bad

-- the cell is there: hosts 1 to 4 and statuses 0 to 11
abbrev pub HasCell : Entry → Reply → Type 0
HasCell (Call named host revision index size) reply = (1 ≤ host) × (host ≤ 4) × (printed_status reply.verdict ≤ 11)
HasCell Tick reply = Unit {0}
HasCell (Power named) reply = Unit {0}
HasCell (Health named new) reply = Unit {0}
HasCell Bad reply = Unit {0}

-- a count with one more, where there is room; and whether there was
abbrev pub raised_count : (count : ℕ) → ℕ
raised_count count = if largest_count ≤? count then count else (count + 1)

abbrev pub room_for : (count : ℕ) → Result Unit LogTooMany
room_for count = if largest_count ≤? count then Err (record {}) else Ok tt
