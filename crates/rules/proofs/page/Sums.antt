-- Document 02, T-01: "The grid's sum plus the function 0 calls equals the good call records in the logs, counted from the logs themselves."
-- Assumes nothing.
use Prim.Native.Nat.{ℕ, zero, suc, ◌+◌, ◌-◌, ◌≤◌, ◌<◌}
use mathlib.Core.{Path.{◌≡◌, refl, sym, ◌∙◌, ap, subst}, Logic.◌↔◌, Bool.{Bool, true, false, not, ◌&&◌, true≢false}, List.{List, [], ◌∷◌, ◌++◌}}
use native.Mathlib.Omega.{arith}
use lib.ListN.{length, get_or, set}
use borrow.Author.Tests.{leb-true}
use Rattle.std.specs.Prelude.{if◌then◌else◌}
use Rattle.rules.specs.{Tests.{◌≤?◌, ◌=?◌}, Bytes.zeros, Numbers.answer_room, Record.{Whole, standing}, Table.row_of, Refusals.verdict}
use Rattle.rules.specs.{Module.{Call, call_of, checks}, Cabinet.{gate_checks, call_checks, call_result, outcome}}
use Rattle.rules.specs.Log.{record_size, kind_in, named_in, host_in, revision_in, function_in, length_in, request_in, padded, good_call, bare, good_power, spare_in, media_in, controller_in, good_reading, entry_of, records_in, record_at, short_tail}
use Rattle.rules.specs.{Replay.{replay_start, replay_call, whole_after, printed_status}, History.{All, total}}
use Rattle.rules.specs.Report.{Report, nothing_counted, Counted, answered, masked, counted_as, raised_at, raised_cell, raised, report_after, count_to, if_call, if_tick, if_power, if_bad, grid_sum, Sums, added_row, added_grid, with_log, fits, fed_if, feed, fed_next, AllTaken, report_of, ◌plus◌, Reported, NoneAbove, RequestT01, if_reading}
use Rattle.rules.specs.declared.Function.{Function}
use Rattle.rules.specs.declared.Function.TheVariants.{Mask, GetHealth, GetThreshold, GetFwInfo, Start, Send, Finish, Query, SetThreshold, GetSecurityState, SetPassphrase, Disable, Unlock, Freeze, Unserved}
use Rattle.rules.specs.{declared.Refusal.TheVariants.{R, Status}}
use Rattle.rules.specs.declared.Entry.{Entry}
use Rattle.rules.proofs.{page.Choice.{and_true, and_5}, page.Passed.{every, by_rows}, page.Counting.{Shaped, shaped_nothing, shaped_after, counted, shaped_log}}
use Rattle.rules.proofs.page.Reports.{taken_report, fits_taken, together, shaped_together, is_together, any_order, each_list, two_lists, two_machines}
use Rattle.rules.proofs.page.NoneAbove.{fits_exactly}
use Rattle.rules.specs.declared.Entry.TheVariants as Entry'
use Rattle.rules.specs.Refusals.{Verdict}
use Rattle.std.specs.Prelude.{Ok, Err}
use Rattle.rules.specs.Health.{new_reading}

-- the host of a good call record is 1 to 4
pub record GoodHost (host : ℕ) : Type 0 where
  pub least : 1 ≤ host
  pub most : host ≤ 4

abbrev call_or : (good : Bool) (named host revision index size : ℕ) (other : Entry) → Entry
call_or good named host revision index size other = if good then Entry'.Call named host revision index size else other

unfoldable pub hosts_of : Entry → Type 0
hosts_of (Entry'.Call named host revision index size) = GoodHost host
hosts_of Entry'.Tick = Unit {0}
hosts_of (Entry'.Power named) = Unit {0}
hosts_of (Entry'.Health named new) = Unit {0}
hosts_of Entry'.Bad = Unit {0}

pub good_hosts : (bytes : List ℕ) → hosts_of (entry_of bytes)
unfolding entry_of hosts_of
good_hosts bytes = go (not (length bytes =? record_size)) (kind_in bytes =? 1 && good_call bytes) refl (kind_in bytes =? 2 && bare bytes) (kind_in bytes =? 3 && good_power bytes) (kind_in bytes =? 4 && good_reading bytes)
  where
    within : (kind_in bytes =? 1 && good_call bytes) ≡ true → GoodHost (host_in bytes)
    within e =
        let good = (and_true (kind_in bytes =? 1) (good_call bytes) e).1 in
        let two = and_5 (1 ≤? host_in bytes) (host_in bytes ≤? 4) (named_in bytes ≤? 1) (length_in bytes ≤? 536) (padded bytes) good in
        record { least = leb-true 1 (host_in bytes) two.0; most = leb-true (host_in bytes) 4 two.1 }

    go : (a b : Bool) → (kind_in bytes =? 1 && good_call bytes) ≡ b → (c d h : Bool)
        → hosts_of (if a then Entry'.Bad else call_or b (named_in bytes) (host_in bytes) (revision_in bytes) (function_in bytes) (length_in bytes) (if c then Entry'.Tick else if d then Entry'.Power (named_in bytes) else if h then Entry'.Health (named_in bytes) (new_reading (spare_in bytes) (media_in bytes) (controller_in bytes)) else Entry'.Bad))
    go true b e c d h = tt
    go false true e c d h = within e
    go false false e true d h = tt
    go false false e false true h = tt
    go false false e false false true = tt
    go false false e false false false = tt

-- a printed status is at most 11
abbrev small : Verdict → Bool
small (Ok tt) = true
small (Err (R number)) = number ≤? 11
small (Err (Status status ext)) = status ≤? 11

small_printed : (v : Verdict) → small v ≡ true → printed_status v ≤ 11
small_printed (Ok tt) e = omega arith
small_printed (Err (R number)) e = leb-true number 11 e
small_printed (Err (Status status ext)) e = leb-true status 11 e

small_outcome : (v : Verdict) (w : Whole) (named : ℕ) (call : Call) (n : ℕ) (answer : List ℕ) → small v ≡ true → small (outcome v w named call n answer).reply.verdict ≡ true
small_outcome (Ok tt) w named call n answer e = e
small_outcome (Err (R number)) w named call n answer e = e
small_outcome (Err (Status status ext)) w named call n answer e = e

small_rows : (w : Whole) (named : ℕ) (f : Function) (revision index : ℕ) (request answer : List ℕ)
    → every small (gate_checks w named revision index request answer ++ checks (standing named w) (call_of f revision request)) ≡ true
small_rows w named Mask revision index request answer = refl
small_rows w named GetHealth revision index request answer = refl
small_rows w named GetThreshold revision index request answer = refl
small_rows w named GetFwInfo revision index request answer = refl
small_rows w named Start revision index request answer = refl
small_rows w named Send revision index request answer = refl
small_rows w named Finish revision index request answer = refl
small_rows w named Query revision index request answer = refl
small_rows w named SetThreshold revision index request answer = refl
small_rows w named GetSecurityState revision index request answer = refl
small_rows w named SetPassphrase revision index request answer = refl
small_rows w named Disable revision index request answer = refl
small_rows w named Unlock revision index request answer = refl
small_rows w named Freeze revision index request answer = refl
small_rows w named Unserved revision index request answer = refl

pub status_most : (w : Whole) (named revision index : ℕ) (request : List ℕ) → printed_status (replay_call w named revision index request).reply.verdict ≤ 11
unfolding call_result
status_most w named revision index request =
    let answer : List ℕ = zeros answer_room in
    let rows = call_checks w named revision index request answer in
    small_printed (call_result w named revision index request answer).reply.verdict
    (small_outcome (verdict rows) w named (call_of (row_of index).function revision request) (row_of index).answer answer
    (by_rows small rows (small_rows w named (row_of index).function revision index request answer)))

-- one count of a list changed
total_set : {X : Type 0} (count : X → ℕ) (l : List X) (i : ℕ) (x d : X) → i < length l → total count (set l i x) + count (get_or l i d) ≡ total count l + count x
total_set count [] i x d h = absurd (omega arith)
total_set count (y ∷ l) zero x d h = omega arith
total_set count (y ∷ l) (suc i) x d h = let e = total_set count l i x d (omega arith) in omega arith

all_get : {X : Type 0} (P : X → Type 0) (l : List X) (i : ℕ) (d : X) → All P l → i < length l → P (get_or l i d)
all_get P [] i d a h = absurd (omega arith)
all_get P (x ∷ l) zero d a h = a.0
all_get P (x ∷ l) (suc i) d a h = all_get P l i d a.1 (omega arith)

sum_cell : (grid : List (List ℕ)) (host status : ℕ) → Shaped grid → GoodHost host → status ≤ 11 → grid_sum (raised_cell host status grid) ≡ grid_sum grid + 1
sum_cell grid host status s g k =
    let row : List ℕ = get_or grid (host - 1) [] in
    let low = g.least in
    let high = g.most in
    let four = s.hosts in
    let there : host - 1 < length grid = omega arith in
    let twelve : length row ≡ 12 = all_get (λ (r : List ℕ). length r ≡ 12) grid (host - 1) [] s.columns there in
    let inside : status < length row = omega arith in
    let a : total (λ count. count) (raised_at status row) + get_or row status 0 ≡ total (λ count. count) row + (get_or row status 0 + 1) =
    total_set (λ (count : ℕ). count) row status (get_or row status 0 + 1) 0 inside in
    let b : grid_sum (raised_cell host status grid) + total (λ count. count) row ≡ grid_sum grid + total (λ count. count) (raised_at status row) =
    total_set (total (λ (count : ℕ). count)) grid (host - 1) (raised_at status row) [] there in
    omega arith

-- one record more
record Step (r : Report) (x : Counted) (entry : Entry) : Type 0 where
  calls : grid_sum (raised x r).grid + (raised x r).counts.masks ≡ (grid_sum r.grid + r.counts.masks) + if_call entry
  ticks : (raised x r).counts.ticks ≡ r.counts.ticks + if_tick entry
  powers : (raised x r).counts.powers ≡ r.counts.powers + if_power entry
  readings : (raised x r).counts.readings ≡ r.counts.readings + if_reading entry
  bads : (raised x r).counts.bads ≡ r.counts.bads + if_bad entry
  shorts : (raised x r).counts.shorts ≡ r.counts.shorts

counted_call : (r : Report) (zero? : Bool) (named host status revision index size : ℕ) → Shaped r.grid → GoodHost host → status ≤ 11
    → Step r (if zero? then masked else answered host status) (Entry'.Call named host revision index size)
counted_call r true named host status revision index size s g k = record { calls = omega arith; ticks = omega arith; powers = omega arith; readings = omega arith; bads = omega arith; shorts = refl }
counted_call r false named host status revision index size s g k =
    let e = sum_cell r.grid host status s g k in
    record { calls = omega arith; ticks = omega arith; powers = omega arith; readings = omega arith; bads = omega arith; shorts = refl }

step : (r : Report) (w : Whole) (entry : Entry) (request : List ℕ) → Shaped r.grid → hosts_of entry → Step r (counted_as w entry request) entry
unfolding hosts_of
step r w (Entry'.Call named host revision index size) request s g = counted_call r (index =? 0) named host _ revision index size s g (status_most w named revision index request)
step r w Entry'.Tick request s g = record { calls = omega arith; ticks = refl; powers = omega arith; readings = omega arith; bads = omega arith; shorts = refl }
step r w (Entry'.Power named) request s g = record { calls = omega arith; ticks = omega arith; powers = refl; readings = omega arith; bads = omega arith; shorts = refl }
step r w (Entry'.Health named new) request s g =
    record { calls = omega arith; ticks = omega arith; powers = omega arith; readings = refl; bads = omega arith; shorts = refl }
step r w Entry'.Bad request s g = record { calls = omega arith; ticks = omega arith; powers = omega arith; readings = omega arith; bads = refl; shorts = refl }

-- the first j records of a log
record SumsTo (r : Report) (log : List ℕ) (j : ℕ) : Type 0 where
  calls : grid_sum r.grid + r.counts.masks ≡ count_to if_call log j
  ticks : r.counts.ticks ≡ count_to if_tick log j
  powers : r.counts.powers ≡ count_to if_power log j
  readings : r.counts.readings ≡ count_to if_reading log j
  bads : r.counts.bads ≡ count_to if_bad log j
  shorts : r.counts.shorts ≡ 0

sums_to : (w : Whole) (log : List ℕ) (j : ℕ) → SumsTo (report_after nothing_counted w log j) log j
unfolding report_after count_to
sums_to w log zero = record { calls = refl; ticks = refl; powers = refl; readings = refl; bads = refl; shorts = refl }
sums_to w log (suc j) =
    let before = sums_to w log j in
    let one = step (report_after nothing_counted w log j) (whole_after w log j) (entry_of (record_at log j)) (request_in (record_at log j)) (shaped_after nothing_counted w log j shaped_nothing) (good_hosts (record_at log j)) in
    record {
      calls = omega (arith, before.calls, one.calls);
      ticks = omega (arith, before.ticks, one.ticks);
      powers = omega (arith, before.powers, one.powers);
      readings = omega (arith, before.readings, one.readings);
      bads = omega (arith, before.bads, one.bads);
      shorts = one.shorts ∙ before.shorts;
    }

-- the same of a log, and of several
sums_log : (log : List ℕ) → Sums (counted log) (log ∷ [])
sums_log log =
    let s = sums_to replay_start log (records_in log) in
    record { calls = omega (arith, s.calls); ticks = omega (arith, s.ticks); powers = omega (arith, s.powers); readings = omega (arith, s.readings); bads = omega (arith, s.bads); shorts = tail (short_tail log) s.shorts }
  where
    tail : (short : Bool) {n : ℕ} → n ≡ 0 → (if short then n + 1 else n) ≡ (if short then 1 else 0) + 0
    tail true e = omega arith
    tail false e = omega arith

sum_rows : (a b : List ℕ) → length a ≡ length b → total (λ count. count) (added_row a b) ≡ total (λ count. count) a + total (λ count. count) b
sum_rows [] [] l = omega arith
sum_rows [] (y ∷ b) l = absurd (omega arith)
sum_rows (x ∷ a) [] l = absurd (omega arith)
sum_rows (x ∷ a) (y ∷ b) l = let e = sum_rows a b (omega arith) in omega arith

sum_grids : (a b : List (List ℕ)) → length a ≡ length b → All (λ row. length row ≡ 12) a → All (λ row. length row ≡ 12) b → grid_sum (added_grid a b) ≡ grid_sum a + grid_sum b
sum_grids [] [] l p q = omega arith
sum_grids [] (y ∷ b) l p q = absurd (omega arith)
sum_grids (x ∷ a) [] l p q = absurd (omega arith)
sum_grids (x ∷ a) (y ∷ b) l p q =
    let e = sum_rows x y (p.0 ∙ sym q.0) in
    let f = sum_grids a b (omega arith) p.1 q.1 in omega arith

sums_together : (logs : List (List ℕ)) → Sums (together logs) logs
sums_together [] = record { calls = refl; ticks = refl; powers = refl; readings = refl; bads = refl; shorts = refl }
sums_together (log ∷ logs) =
    let a = sums_log log in
    let b = sums_together logs in
    let s = shaped_log nothing_counted log shaped_nothing in
    let t = shaped_together logs in
    let g = sum_grids (counted log).grid (together logs).grid (s.hosts ∙ sym t.hosts) s.columns t.columns in
    record {
      calls = omega (arith, a.calls, b.calls, g);
      ticks = omega (arith, a.ticks, b.ticks);
      powers = omega (arith, a.powers, b.powers);
      readings = omega (arith, a.readings, b.readings);
      bads = omega (arith, a.bads, b.bads);
      shorts = omega (arith, a.shorts, b.shorts);
    }

-- T-01.
reported : (logs : List (List ℕ)) → AllTaken logs → Reported logs
reported logs t =
    record {
      sums = subst (λ (r : Report). Sums r logs) (sym (is_together logs t)) (sums_together logs);
      any_order = λ others p. any_order logs others t p;
      each_list = λ first second e. each_list first second (subst (λ (l : List (List ℕ)). AllTaken l) e t);
      two_lists = λ first second e.
          ap report_of e ∙ two_lists first second (subst (λ (l : List (List ℕ)). AllTaken l) e t);
    }

one_refused : (r : Report) (log : List ℕ) → (feed r log).taken ≡ false → fed_next r log ≡ r
unfolding feed
one_refused r log e = go (fits (with_log r log)) e
  where
    go : (fit : Bool) → (fed_if fit (with_log r log) r).taken ≡ false → (fed_if fit (with_log r log) r).report ≡ r
    go true e = absurd (true≢false e)
    go false e = refl

taken_exactly : (r : Report) (log : List ℕ) → ((feed r log).taken ≡ true) ↔ NoneAbove 4294967295 (with_log r log)
taken_exactly r log =
    let fit = fits_exactly (with_log r log) in
    (λ t. fit.0 (taken_report r log t).0, λ none. (fits_taken r log (fit.1 none)).0)

machines : (first second : List (List ℕ)) → AllTaken first → AllTaken second
    → AllTaken (first ++ second) ↔ NoneAbove 4294967295 (report_of first plus report_of second)
machines first second a b =
    let fit = fits_exactly (report_of first plus report_of second) in
    let both = two_machines first second a b in
    (λ t. fit.0 (both.0 t), λ none. both.1 (fit.1 none))

pub request_T01 : RequestT01
request_T01 =
    record {
      all_taken = reported;
      taken_exactly = taken_exactly;
      one_taken = λ r log t. (taken_report r log t).1;
      one_refused = one_refused;
      two_machines = machines;
    }
