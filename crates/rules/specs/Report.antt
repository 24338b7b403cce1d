-- Document 02, "T-01 Which host gets which answers": the report over any count of logs, "each replayed from a fresh module". Readings: docs/DECISIONS.md, B2 to
-- B6 and B63.
-- Assumes nothing.
use Rattle.std.specs.Prelude.{ℕ, zero, suc, ◌+◌, ◌-◌, ◌≤◌}
use mathlib.Core.{Path.◌≡◌, Logic.◌↔◌, Bool.{Bool, true, false, ◌&&◌}, List.{List, [], ◌∷◌, ◌++◌}}
use Rattle.std.specs.Prelude.{get_or, set, replicate}
use Rattle.std.specs.Prelude.{if◌then◌else◌}
use Rattle.rules.specs.Tests.{◌≤?◌, ◌=?◌}
use Rattle.rules.specs.Text.{ascii, decimal, field}
use Rattle.rules.specs.Record.{Whole}
use Rattle.rules.specs.Log.{entry_of, request_in, records_in, record_at, short_tail}
use Rattle.rules.specs.Replay.{replay_start, replay_call, whole_after, printed_status}
use Rattle.rules.specs.History.{total, leads_to, Throughout}
use Rattle.rules.specs.declared.{Entry.Entry, Entry.TheVariants.{Call, Tick, Power, Health, Bad}, Counts.Counts}

-- "a grid of counts, one row for each host, one column for each status 0 to 11, then function 0 calls, ticks, power cycles, bad records and short tails."
-- Document 02, T-04: "T-01 counts readings". Row 0 is host 1's; column 0 is status 0's.
pub record Report : Type 0 where
  pub grid : List (List ℕ)
  pub counts : Counts

-- before the first log: four rows of twelve zeros, and zeros
abbrev pub nothing_counted : Report
nothing_counted =
    record { grid = replicate 4 (replicate 12 0); counts = record { masks = 0; ticks = 0; powers = 0; readings = 0; bads = 0; shorts = 0 } }

-- what a log record counts as: a call by a host that was answered a status; a call of function 0; a tick; a power cycle; a health reading; a bad record
pub data Counted : Type 0 where
  answered : (host status : ℕ) → Counted
  masked ticked powered measured bad : Counted

-- a call by its host and by the status that the replay prints, but for function 0, which has none
abbrev pub counted_as : Whole → Entry → (request : List ℕ) → Counted
counted_as w (Call named host revision index size) request =
    if index =? 0 then masked else answered host (printed_status (replay_call w named revision index request).reply.verdict)
counted_as w Tick request = ticked
counted_as w (Power named) request = powered
counted_as w (Health named new) request = measured
counted_as w Bad request = bad

abbrev pub record_counted : Whole → (bytes : List ℕ) → Counted
record_counted w bytes = counted_as w (entry_of bytes) (request_in bytes)

-- one more at a place of a row; one more in the cell of a host and a status
abbrev pub raised_at : (place : ℕ) → List ℕ → List ℕ
raised_at place row = set row place (get_or row place 0 + 1)

abbrev pub raised_cell : (host status : ℕ) → List (List ℕ) → List (List ℕ)
raised_cell host status grid = set grid (host - 1) (raised_at status (get_or grid (host - 1) []))

-- "one cell raised per call record" (document 01, the form for each place), but for function 0; every other record raises its own count
abbrev pub raised_grid : Counted → List (List ℕ) → List (List ℕ)
raised_grid (answered host status) grid = raised_cell host status grid
raised_grid masked grid = grid
raised_grid ticked grid = grid
raised_grid powered grid = grid
raised_grid measured grid = grid
raised_grid bad grid = grid

abbrev counts_of : (masks ticks powers readings bads shorts : ℕ) → Counts
counts_of masks ticks powers readings bads shorts =
    record { masks = masks; ticks = ticks; powers = powers; readings = readings; bads = bads; shorts = shorts }

abbrev pub raised_counts : Counted → Counts → Counts
raised_counts (answered host status) c = c
raised_counts masked c = counts_of (c.masks + 1) c.ticks c.powers c.readings c.bads c.shorts
raised_counts ticked c = counts_of c.masks (c.ticks + 1) c.powers c.readings c.bads c.shorts
raised_counts powered c = counts_of c.masks c.ticks (c.powers + 1) c.readings c.bads c.shorts
raised_counts measured c = counts_of c.masks c.ticks c.powers (c.readings + 1) c.bads c.shorts
raised_counts bad c = counts_of c.masks c.ticks c.powers c.readings (c.bads + 1) c.shorts

abbrev pub raised : Counted → Report → Report
raised x r = record { grid = raised_grid x r.grid; counts = raised_counts x r.counts }

-- the report after the first j records of a log, which is replayed from the cabinet w
unfoldable pub report_after : Report → Whole → (log : List ℕ) (j : ℕ) → Report
report_after r w log zero = r
report_after r w log (suc j) = raised (record_counted (whole_after w log j) (record_at log j)) (report_after r w log j)

-- a short tail raises its own count
abbrev pub raised_short : Bool → Counts → Counts
raised_short short c = counts_of c.masks c.ticks c.powers c.readings c.bads (if short then c.shorts + 1 else c.shorts)

abbrev pub with_tail : Bool → Report → Report
with_tail short r = record { grid = r.grid; counts = raised_short short r.counts }

-- the report with one log more, "replayed from a fresh module" and an area of zeros
abbrev pub with_log : Report → (log : List ℕ) → Report
with_log r log = with_tail (short_tail log) (report_after r replay_start log (records_in log))

-- "4,294,967,295"
abbrev pub largest_count : ℕ
largest_count = 4294967295

abbrev pub row_fits : List ℕ → Bool
row_fits [] = true
row_fits (count ∷ row) = count ≤? largest_count && row_fits row

abbrev pub grid_fits : List (List ℕ) → Bool
grid_fits [] = true
grid_fits (row ∷ grid) = row_fits row && grid_fits grid

abbrev pub counts_fit : Counts → Bool
counts_fit c =
    c.masks ≤? largest_count
    && c.ticks ≤? largest_count
    && c.powers ≤? largest_count
    && c.readings ≤? largest_count
    && c.bads ≤? largest_count
    && c.shorts ≤? largest_count

-- no count passes it
unfoldable pub fits : Report → Bool
fits r = grid_fits r.grid && counts_fit r.counts

-- what feeding a log comes to: whether it was taken, and the report afterwards
pub record Fed : Type 0 where
  pub taken : Bool
  pub report : Report

-- "Refusals: log too many, exactly if some count would pass 4,294,967,295; the report stays as it was."
abbrev pub fed_if : (fit : Bool) (new was : Report) → Fed
fed_if true new was = record { taken = true; report = new }
fed_if false new was = record { taken = false; report = was }

unfoldable pub feed : Report → (log : List ℕ) → Fed
feed r log = fed_if (fits (with_log r log)) (with_log r log) r

-- "From any count of logs, fed one after another"
abbrev pub fed_next : Report → (log : List ℕ) → Report
fed_next r log = (feed r log).report

abbrev pub report_of : (logs : List (List ℕ)) → Report
report_of logs = leads_to fed_next nothing_counted logs

-- What is printed: "status 0 1 2 3 4 5 6 7 8 9 10 11", a line for each host with its counts, then a line for each other count.
abbrev pub report_heading : List ℕ
report_heading = ascii "status 0 1 2 3 4 5 6 7 8 9 10 11\n"

-- the counts of a row, each after a space
abbrev pub row_text : List ℕ → List ℕ
row_text [] = ascii "\n"
row_text (count ∷ row) = ascii " " ++ decimal count ++ row_text row

-- the rows, the first of which is this host's
abbrev pub host_lines : (host : ℕ) → List (List ℕ) → List ℕ
host_lines host [] = []
host_lines host (row ∷ grid) = ascii "host " ++ decimal host ++ row_text row ++ host_lines (host + 1) grid

abbrev pub count_lines : Counts → List ℕ
count_lines c =
    ascii "function 0 " ++ field c.masks "\n"
    ++ (ascii "ticks " ++ field c.ticks "\n")
    ++ (ascii "power " ++ field c.powers "\n")
    ++ (ascii "readings " ++ field c.readings "\n")
    ++ (ascii "bad " ++ field c.bads "\n")
    ++ (ascii "short " ++ field c.shorts "\n")

abbrev pub report_text : Report → List ℕ
report_text r = report_heading ++ host_lines 1 r.grid ++ count_lines r.counts

-- every log was taken
abbrev pub AllTaken : (logs : List (List ℕ)) → Type 0
AllTaken logs = Throughout fed_next (λ r log. (feed r log).taken ≡ true) nothing_counted logs

-- The logs alone, with no replay: how many of the first j records of a log are of a sort, each counted by the function.
unfoldable pub count_to : (Entry → ℕ) → (log : List ℕ) (j : ℕ) → ℕ
count_to count log zero = 0
count_to count log (suc j) = count_to count log j + count (entry_of (record_at log j))

abbrev pub count_in : (Entry → ℕ) → (log : List ℕ) → ℕ
count_in count log = count_to count log (records_in log)

abbrev pub if_call : Entry → ℕ
if_call (Call named host revision index size) = 1
if_call Tick = 0
if_call (Power named) = 0
if_call (Health named new) = 0
if_call Bad = 0

abbrev pub if_tick : Entry → ℕ
if_tick (Call named host revision index size) = 0
if_tick Tick = 1
if_tick (Power named) = 0
if_tick (Health named new) = 0
if_tick Bad = 0

abbrev pub if_power : Entry → ℕ
if_power (Call named host revision index size) = 0
if_power Tick = 0
if_power (Power named) = 1
if_power (Health named new) = 0
if_power Bad = 0

abbrev pub if_reading : Entry → ℕ
if_reading (Call named host revision index size) = 0
if_reading Tick = 0
if_reading (Power named) = 0
if_reading (Health named new) = 1
if_reading Bad = 0

abbrev pub if_bad : Entry → ℕ
if_bad (Call named host revision index size) = 0
if_bad Tick = 0
if_bad (Power named) = 0
if_bad (Health named new) = 0
if_bad Bad = 1

abbrev pub if_short : (log : List ℕ) → ℕ
if_short log = if short_tail log then 1 else 0

-- the sum of all counts of a grid, an exact number of any size
abbrev pub grid_sum : List (List ℕ) → ℕ
grid_sum grid = total (total (λ count. count)) grid

-- "The grid's sum plus the function 0 calls equals the good call records in the logs, counted from the logs themselves." And so the other counts.
pub record Sums (r : Report) (logs : List (List ℕ)) : Type 0 where
  pub calls : grid_sum r.grid + r.counts.masks ≡ total (count_in if_call) logs
  pub ticks : r.counts.ticks ≡ total (count_in if_tick) logs
  pub powers : r.counts.powers ≡ total (count_in if_power) logs
  pub readings : r.counts.readings ≡ total (count_in if_reading) logs
  pub bads : r.counts.bads ≡ total (count_in if_bad) logs
  pub shorts : r.counts.shorts ≡ total if_short logs

-- two reports added, number by number
abbrev pub added_row : List ℕ → List ℕ → List ℕ
added_row [] row = []
added_row (a ∷ first) [] = []
added_row (a ∷ first) (b ∷ second) = (a + b) ∷ added_row first second

abbrev pub added_grid : List (List ℕ) → List (List ℕ) → List (List ℕ)
added_grid [] grid = []
added_grid (a ∷ first) [] = []
added_grid (a ∷ first) (b ∷ second) = added_row a b ∷ added_grid first second

infixl 65 ◌plus◌
abbrev pub ◌plus◌ : Report → Report → Report
r plus q =
    record {
      grid = added_grid r.grid q.grid;
      counts = counts_of (r.counts.masks + q.counts.masks) (r.counts.ticks + q.counts.ticks) (r.counts.powers + q.counts.powers)
          (r.counts.readings + q.counts.readings) (r.counts.bads + q.counts.bads) (r.counts.shorts + q.counts.shorts);
    }

-- the same logs in another order
pub data Reordered : List (List ℕ) → List (List ℕ) → Type 0 where
  as_they_are : {logs : List (List ℕ)} → Reordered logs logs
  later : {log : List ℕ} {logs others : List (List ℕ)} → Reordered logs others → Reordered (log ∷ logs) (log ∷ others)
  two_swapped : {first second : List ℕ} {logs : List (List ℕ)} → Reordered (first ∷ second ∷ logs) (second ∷ first ∷ logs)
  and_again : {logs others further : List (List ℕ)} → Reordered logs others → Reordered others further → Reordered logs further

-- T-01 of logs that were all taken: the sums; in another order they are all taken too, and the report is the same; where they are two lists of logs, each of
-- these is all taken by itself, and the report is the sum of theirs.
pub record Reported (logs : List (List ℕ)) : Type 0 where
  pub sums : Sums (report_of logs) logs
  pub any_order : (others : List (List ℕ)) → Reordered logs others → AllTaken others × (report_of others ≡ report_of logs)
  pub each_list : (first second : List (List ℕ)) → logs ≡ first ++ second → AllTaken first × AllTaken second
  pub two_lists : (first second : List (List ℕ)) → logs ≡ first ++ second → report_of logs ≡ report_of first plus report_of second

-- every number of a report is at most so much: each cell, by its row and column, and each other count
pub record NoneAbove (most : ℕ) (r : Report) : Type 0 where
  pub cells : (row column : ℕ) → get_or (get_or r.grid row []) column 0 ≤ most
  pub masks : r.counts.masks ≤ most
  pub ticks : r.counts.ticks ≤ most
  pub powers : r.counts.powers ≤ most
  pub readings : r.counts.readings ≤ most
  pub bads : r.counts.bads ≤ most
  pub shorts : r.counts.shorts ≤ most

-- "log too many, exactly if some count would pass 4,294,967,295; the report stays as it was": a log is taken exactly if no number is then above it; one that is
-- taken is counted, and a refused one changes nothing. And two lists of logs that were each taken, on two machines, are taken together exactly if no number of
-- the sum of their reports is above it; the sum is then their report.
pub record RequestT01 : Type 0 where
  pub all_taken : (logs : List (List ℕ)) → AllTaken logs → Reported logs
  pub taken_exactly : (r : Report) (log : List ℕ) → ((feed r log).taken ≡ true) ↔ NoneAbove 4294967295 (with_log r log)
  pub one_taken : (r : Report) (log : List ℕ) → (feed r log).taken ≡ true → fed_next r log ≡ with_log r log
  pub one_refused : (r : Report) (log : List ℕ) → (feed r log).taken ≡ false → fed_next r log ≡ r
  pub two_machines : (first second : List (List ℕ)) → AllTaken first → AllTaken second
      → AllTaken (first ++ second) ↔ NoneAbove 4294967295 (report_of first plus report_of second)
