-- Document 02, T-01, written out, and by examples: the report of the list of texts' logs, and each count one below the largest and at it.
-- Assumes nothing.
use Rattle.std.specs.Prelude.{ℕ, ◌+◌, ◌≤◌}
use mathlib.Core.{Path.◌≡◌, Bool.{true, false}, List.{List, [], ◌∷◌, ◌++◌, map}}
use Rattle.std.specs.Prelude.{get_or, replicate}
use Rattle.rules.specs.Text.{ascii}
use Rattle.rules.specs.Texts.{texts, log_of}
use Rattle.rules.specs.History.{total}
use Rattle.rules.specs.Report.{Report, with_log, feed, report_of, report_text, AllTaken, count_in, if_call, if_tick, if_power, if_bad, if_short, grid_sum, added_grid, Reordered, if_reading}

-- each number of a report; and each sum of two reports' numbers
pub record Each (P : ℕ → Type 0) (r : Report) : Type 0 where
  pub cells : (row column : ℕ) → P (get_or (get_or r.grid row []) column 0)
  pub masks : P r.counts.masks
  pub ticks : P r.counts.ticks
  pub powers : P r.counts.powers
  pub readings : P r.counts.readings
  pub bads : P r.counts.bads
  pub shorts : P r.counts.shorts

pub record EachSum (P : ℕ → Type 0) (r q : Report) : Type 0 where
  pub cell_sums : (row column : ℕ) → P (get_or (get_or (added_grid r.grid q.grid) row []) column 0)
  pub mask_sum : P (r.counts.masks + q.counts.masks)
  pub tick_sum : P (r.counts.ticks + q.counts.ticks)
  pub power_sum : P (r.counts.powers + q.counts.powers)
  pub reading_sum : P (r.counts.readings + q.counts.readings)
  pub bad_sum : P (r.counts.bads + q.counts.bads)
  pub short_sum : P (r.counts.shorts + q.counts.shorts)

-- of logs that were all taken; and of one log, taken or refused
pub record ReportsWrittenOut : Type 0 where
  pub calls : (logs : List (List ℕ)) → AllTaken logs → grid_sum (report_of logs).grid + (report_of logs).counts.masks ≡ total (count_in if_call) logs
  pub ticks : (logs : List (List ℕ)) → AllTaken logs → (report_of logs).counts.ticks ≡ total (count_in if_tick) logs
  pub powers : (logs : List (List ℕ)) → AllTaken logs → (report_of logs).counts.powers ≡ total (count_in if_power) logs
  pub readings : (logs : List (List ℕ)) → AllTaken logs → (report_of logs).counts.readings ≡ total (count_in if_reading) logs
  pub bads : (logs : List (List ℕ)) → AllTaken logs → (report_of logs).counts.bads ≡ total (count_in if_bad) logs
  pub shorts : (logs : List (List ℕ)) → AllTaken logs → (report_of logs).counts.shorts ≡ total if_short logs
  pub swapped : (first second : List ℕ) (logs : List (List ℕ)) → AllTaken (first ∷ second ∷ logs) → report_of (second ∷ first ∷ logs) ≡ report_of (first ∷ second ∷ logs)
  pub any_order : (logs others : List (List ℕ)) → AllTaken logs → Reordered logs others → AllTaken others × (report_of others ≡ report_of logs)
  pub grids_add : (first second : List (List ℕ)) → AllTaken (first ++ second) → (report_of (first ++ second)).grid ≡ added_grid (report_of first).grid (report_of second).grid
  pub ticks_add : (first second : List (List ℕ)) → AllTaken (first ++ second) → (report_of (first ++ second)).counts.ticks ≡ (report_of first).counts.ticks + (report_of second).counts.ticks
  pub masks_add : (first second : List (List ℕ)) → AllTaken (first ++ second) → (report_of (first ++ second)).counts.masks ≡ (report_of first).counts.masks + (report_of second).counts.masks
  pub powers_add : (first second : List (List ℕ)) → AllTaken (first ++ second) → (report_of (first ++ second)).counts.powers ≡ (report_of first).counts.powers + (report_of second).counts.powers
  pub readings_add : (first second : List (List ℕ)) → AllTaken (first ++ second) → (report_of (first ++ second)).counts.readings ≡ (report_of first).counts.readings + (report_of second).counts.readings
  pub bads_add : (first second : List (List ℕ)) → AllTaken (first ++ second) → (report_of (first ++ second)).counts.bads ≡ (report_of first).counts.bads + (report_of second).counts.bads
  pub shorts_add : (first second : List (List ℕ)) → AllTaken (first ++ second) → (report_of (first ++ second)).counts.shorts ≡ (report_of first).counts.shorts + (report_of second).counts.shorts
  pub first_taken : (first second : List (List ℕ)) → AllTaken (first ++ second) → AllTaken first
  pub second_taken : (first second : List (List ℕ)) → AllTaken (first ++ second) → AllTaken second
  pub refused : (r : Report) (log : List ℕ) → (feed r log).taken ≡ false → (feed r log).report ≡ r
  pub counted : (r : Report) (log : List ℕ) → (feed r log).taken ≡ true → (feed r log).report ≡ with_log r log
  -- a log is taken if every number is then at most 4,294,967,295, and only then
  pub taken : (r : Report) (log : List ℕ) → Each (λ n. n ≤ 4294967295) (with_log r log) → (feed r log).taken ≡ true
  pub taken_only : (r : Report) (log : List ℕ) → (feed r log).taken ≡ true → Each (λ n. n ≤ 4294967295) (with_log r log)
  -- and so of two lists that were each taken, by the sums of their numbers
  pub joined : (first second : List (List ℕ)) → AllTaken first → AllTaken second → EachSum (λ n. n ≤ 4294967295) (report_of first) (report_of second) → AllTaken (first ++ second)
  pub joined_only : (first second : List (List ℕ)) → AllTaken first → AllTaken second → AllTaken (first ++ second) → EachSum (λ n. n ≤ 4294967295) (report_of first) (report_of second)

-- the cell of host 2 and status 7, function 0 calls, ticks, power cycles, readings, bad records, short tails: so much in one of them
abbrev pub with_count : (cell masks ticks powers readings bads shorts : ℕ) → Report
with_count cell masks ticks powers readings bads shorts =
    record {
      grid = replicate 12 0 ∷ (replicate 7 0 ++ (cell ∷ replicate 4 0)) ∷ replicate 12 0 ∷ replicate 12 0 ∷ [];
      counts = record { masks = masks; ticks = ticks; powers = powers; readings = readings; bads = bads; shorts = shorts };
    }

abbrev pub each_with : ℕ → List Report
each_with n =
    with_count n 0 0 0 0 0 0
    ∷ with_count 0 n 0 0 0 0 0
    ∷ with_count 0 0 n 0 0 0 0
    ∷ with_count 0 0 0 n 0 0 0
    ∷ with_count 0 0 0 0 n 0 0
    ∷ with_count 0 0 0 0 0 n 0
    ∷ with_count 0 0 0 0 0 0 n
    ∷ []

-- the page's example, which has that call, a tick and a tail; and the log of a power cycle, a bad record and a call of function 0; and
-- that of a reading, a bad one and a call of function 1
abbrev pub first_log : List ℕ
first_log = get_or (map log_of texts) 0 []

abbrev pub fourth_log : List ℕ
fourth_log = get_or (map log_of texts) 3 []

abbrev pub fifth_log : List ℕ
fifth_log = get_or (map log_of texts) 4 []

pub record ReportsHeld : Type 0 where
  pub printed : report_text (report_of (map log_of texts))
      ≡ ascii
      "status 0 1 2 3 4 5 6 7 8 9 10 11\nhost 1 25 0 0 0 0 0 0 1 0 0 0 0\nhost 2 1 0 0 0 0 0 0 1 1 0 0 0\nhost 3 0 0 0 0 0 0 0 0 0 0 0 0\nhost 4 1 0 0 0 0 0 0 0 0 0 0 0\nfunction 0 1\nticks 57\npower 3\nreadings 2\nbad 6\nshort 2\n"
  pub largest_fits : map (λ r. (feed r first_log).taken) (each_with 4294967294) ≡ replicate 7 true
  pub too_many_first : map (λ r. (feed r first_log).taken) (each_with 4294967295) ≡ false ∷ true ∷ false ∷ true ∷ true ∷ true ∷ false ∷ []
  pub too_many_fourth : map (λ r. (feed r fourth_log).taken) (each_with 4294967295) ≡ true ∷ false ∷ true ∷ false ∷ true ∷ false ∷ true ∷ []
  pub too_many_fifth : map (λ r. (feed r fifth_log).taken) (each_with 4294967295) ≡ true ∷ true ∷ true ∷ true ∷ false ∷ false ∷ true ∷ []
