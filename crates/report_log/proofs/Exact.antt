-- The tally of a whole log is what feeding the log comes to: it is full exactly where a count of the new report passes the largest, and else it is that report.
-- Assumes nothing.
use mathlib.Core.{Path.{◌≡◌, refl, sym, ◌∙◌, ap, subst}, Bool.{Bool, true, false, not, ◌&&◌, ◌||◌, true≢false, false≢true}, List.{List, [], ◌∷◌}}
use Prim.Native.Nat.{ℕ, zero, suc, ◌+◌, ◌-◌}
use native.Mathlib.Omega.{arith}
use lib.{ListN.{get_or, set}}
use borrow.Author.Tests.{leb-true, leb-false, le-leb, lt-leb}
use Rattle.std.specs.Bool.{if◌then◌else◌}
use Rattle.rules.{specs.Tests.◌≤?◌, specs.Record.Whole, specs.Log.{record_at, records_in, short_tail}, specs.Replay.{replay_start, whole_after}}
use Rattle.rules.specs.Report.{Report, Counted, answered, masked, ticked, powered, measured, bad, record_counted, raised_at, raised, report_after, with_tail, with_log, largest_count, row_fits, grid_fits, counts_fit, fits, fed_if, feed}
use Rattle.rules.specs.declared.Counts.{Counts}
use Rattle.report_tally.specs.Tally.{Tally, count_of, tallied_if, tallied_tail}
use Rattle.report_log.specs.Parts.{tally_after, begun, fed_by, FedByTally}

-- a count raised is below the largest before
next_fits : (count : ℕ) → (count + 1 ≤? largest_count) ≡ ((count ≤? largest_count) && not (largest_count ≤? count))
next_fits count = go (largest_count ≤? count) refl
  where
    go : (b : Bool) → (largest_count ≤? count) ≡ b → (count + 1 ≤? largest_count) ≡ ((count ≤? largest_count) && not (largest_count ≤? count))
    go true e =
        let h = leb-true largest_count count e in
        lt-leb (count + 1) largest_count (omega (arith, h)) ∙ sym (ap (λ (b : Bool). (count ≤? largest_count) && not b) e ∙ last (count ≤? largest_count))
      where
        last : (a : Bool) → (a && false) ≡ false
        last true = refl
        last false = refl
    go false e =
        let h = leb-false largest_count count e in
        le-leb (count + 1) largest_count (omega (arith, h)) ∙ sym (ap (λ (b : Bool). (count ≤? largest_count) && not b) e ∙ ap (λ (a : Bool). a && true) (le-leb count largest_count (omega (arith, h))))

swapped : (a b d : Bool) → ((a && b) && d) ≡ ((a && d) && b)
swapped true true true = refl
swapped true true false = refl
swapped true false true = refl
swapped true false false = refl
swapped false b d = refl

regrouped : (a b d : Bool) → (a && (b && d)) ≡ ((a && b) && d)
regrouped true b d = refl
regrouped false b d = refl

-- a row, a grid, and each of the other counts: one count raised fits where all did, and that one had room
row_raised : (row : List ℕ) (place : ℕ) → row_fits (raised_at place row) ≡ (row_fits row && not (largest_count ≤? get_or row place 0))
row_raised [] place = refl
row_raised (count ∷ row) zero = ap (λ (b : Bool). b && row_fits row) (next_fits count) ∙ swapped (count ≤? largest_count) (not (largest_count ≤? count)) (row_fits row)
row_raised (count ∷ row) (suc place) =
    ap (λ (b : Bool). (count ≤? largest_count) && b) (row_raised row place) ∙ regrouped (count ≤? largest_count) (row_fits row) (not (largest_count ≤? get_or row place 0))

grid_raised : (grid : List (List ℕ)) (host status : ℕ)
    → grid_fits (set grid host (raised_at status (get_or grid host []))) ≡ (grid_fits grid && not (largest_count ≤? get_or (get_or grid host []) status 0))
grid_raised [] host status = refl
grid_raised (row ∷ grid) zero status = ap (λ (b : Bool). b && grid_fits grid) (row_raised row status) ∙ swapped (row_fits row) (not (largest_count ≤? get_or row status 0)) (grid_fits grid)
grid_raised (row ∷ grid) (suc host) status =
    ap (λ (b : Bool). row_fits row && b) (grid_raised grid host status) ∙ regrouped (row_fits row) (grid_fits grid) (not (largest_count ≤? get_or (get_or grid host []) status 0))

-- one count among others is raised: all fit where all did before, and that one had room
record Up (room was new : Bool) : Type 0 where
  is : new ≡ (was && room)

up : (count : ℕ) → Up (not (largest_count ≤? count)) (count ≤? largest_count) (count + 1 ≤? largest_count)
up count = record { is = next_fits count }

past : {room was new : Bool} (next : Bool) → Up room was new → Up room (was && next) (new && next)
past {room} {was} next u = record { is = ap (λ (x : Bool). x && next) u.is ∙ swapped was room next }

behind : {room was new : Bool} (first : Bool) → Up room was new → Up room (first && was) (first && new)
behind {room} {was} first u = record { is = ap (λ (x : Bool). first && x) u.is ∙ regrouped first was room }

module _ (q : Report) where
  abbrev c : Counts
  c = q.counts

  abbrev small : ℕ → Bool
  small count = count ≤? largest_count

  -- a count that stands before the short tails, in the whole report
  whole : {room was new : Bool} → Up room was new
      → (grid_fits q.grid && (new && small c.shorts)) ≡ ((grid_fits q.grid && (was && small c.shorts)) && room)
  whole u = (behind (grid_fits q.grid) (past (small c.shorts) u)).is

  pub fits_raised : (x : Counted) → fits (raised x q) ≡ (fits q && not (largest_count ≤? count_of x q))
  unfolding fits
  fits_raised (answered host status) =
      ap (λ (b : Bool). b && counts_fit c) (grid_raised q.grid (host - 1) status)
      ∙ swapped (grid_fits q.grid) (not (largest_count ≤? get_or (get_or q.grid (host - 1) []) status 0)) (counts_fit c)
  fits_raised masked = whole (past (small c.bads) (past (small c.readings) (past (small c.powers) (past (small c.ticks) (up c.masks)))))
  fits_raised ticked = whole (past (small c.bads) (past (small c.readings) (past (small c.powers) (behind (small c.masks) (up c.ticks)))))
  fits_raised powered = whole (past (small c.bads) (past (small c.readings) (behind (small c.masks && small c.ticks) (up c.powers))))
  fits_raised measured = whole (past (small c.bads) (behind (small c.masks && small c.ticks && small c.powers) (up c.readings)))
  fits_raised bad = whole (behind (small c.masks && small c.ticks && small c.powers && small c.readings) (up c.bads))

  last : (a : Bool) → a ≡ (a && true)
  last true = refl
  last false = refl

  pub fits_tail : (short : Bool) → fits (with_tail short q) ≡ (fits q && not (if short then largest_count ≤? c.shorts else false))
  unfolding fits
  fits_tail true =
      (behind (grid_fits q.grid) (behind (small c.masks && small c.ticks && small c.powers && small c.readings && small c.bads) (up c.shorts))).is
  fits_tail false = last (grid_fits q.grid && counts_fit c)

-- a tally and the report that is counted without a largest count: full where that does not fit, else the same
record Exact (t : Tally) (q : Report) : Type 0 where
  full_is : t.full ≡ not (fits q)
  report_is : t.full ≡ false → t.report ≡ q

-- one more: a record, or the tail
module _ (up : Report → Report) (no_room : Report → Bool) (law : (q : Report) → fits (up q) ≡ (fits q && not (no_room q))) where
  abbrev upped : Tally → Tally
  upped t = tallied_if (t.full || no_room t.report) (up t.report) t.report

  full_already : (t : Tally) (q : Report) → t.full ≡ true → Exact t q → Exact (upped t) (up q)
  full_already t q e x =
      let none : fits q ≡ false = flipped (fits q) (sym e ∙ x.full_is) in
      let still : fits (up q) ≡ false = law q ∙ ap (λ (b : Bool). b && not (no_room q)) none in
      subst (λ (b : Bool). Exact (tallied_if (b || no_room t.report) (up t.report) t.report) (up q)) (sym e)
      (record { full_is = sym (ap not still); report_is = λ f. absurd (true≢false f) })
    where
      flipped : (b : Bool) → true ≡ not b → b ≡ false
      flipped true f = absurd (true≢false f)
      flipped false f = refl

  going_on : (t : Tally) (q : Report) → t.full ≡ false → Exact t q → (b : Bool) → no_room q ≡ b → Exact (upped t) (up q)
  going_on t q e x b at =
      let same : t.report ≡ q = x.report_is e in
      let fit : fits q ≡ true = flipped (fits q) (sym e ∙ x.full_is) in
      let after : fits (up q) ≡ not b = law q ∙ ap (λ (z : Bool). z && not (no_room q)) fit ∙ ap not at in
      let test : (t.full || no_room t.report) ≡ b = ap (λ (z : Bool). z || no_room t.report) e ∙ ap no_room same ∙ at in
      subst (λ (z : Bool). Exact (tallied_if z (up t.report) t.report) (up q)) (sym test) (by_room b after same)
    where
      flipped : (z : Bool) → false ≡ not z → z ≡ true
      flipped true f = refl
      flipped false f = absurd (false≢true f)

      by_room : (z : Bool) → fits (up q) ≡ not z → t.report ≡ q → Exact (tallied_if z (up t.report) t.report) (up q)
      by_room true after same = record { full_is = sym (ap not after); report_is = λ f. absurd (true≢false f) }
      by_room false after same = record { full_is = sym (ap not after); report_is = λ f. ap up same }

  one_more : (t : Tally) (q : Report) → Exact t q → Exact (upped t) (up q)
  one_more t q x = go t.full refl
    where
      go : (b : Bool) → t.full ≡ b → Exact (upped t) (up q)
      go true e = full_already t q e x
      go false e = going_on t q e x (no_room q) refl

exact_after : (r : Report) (w : Whole) (log : List ℕ) (j : ℕ) → fits r ≡ true → Exact (tally_after (begun r) w log j) (report_after r w log j)
unfolding tally_after report_after
exact_after r w log zero f = record { full_is = sym (ap not f); report_is = λ e. refl }
exact_after r w log (suc j) f =
    let x : Counted = record_counted (whole_after w log j) (record_at log j) in
    one_more (raised x) (λ q. largest_count ≤? count_of x q) (λ q. fits_raised q x) (tally_after (begun r) w log j) (report_after r w log j) (exact_after r w log j f)

pub fed_by_tally : FedByTally
unfolding feed
fed_by_tally r log f =
    let short : Bool = short_tail log in
    let before : Tally = tally_after (begun r) replay_start log (records_in log) in
    let x = one_more (with_tail short) (λ q. if short then largest_count ≤? q.counts.shorts else false) (λ q. fits_tail q short) before (report_after r replay_start log (records_in log))
    (exact_after r replay_start log (records_in log) f) in
    ended (tallied_tail short before) (with_log r log) x (tallied_tail short before).full refl
  where
    ended : (t : Tally) (q : Report) → Exact t q → (b : Bool) → t.full ≡ b → fed_by t r ≡ fed_if (fits q) q r
    ended t q x true e =
        ap (λ (b : Bool). fed_if (not b) t.report r) e ∙ sym (ap (λ (b : Bool). fed_if b q r) (flipped (fits q) (sym e ∙ x.full_is)))
      where
        flipped : (z : Bool) → true ≡ not z → z ≡ false
        flipped true g = absurd (true≢false g)
        flipped false g = refl
    ended t q x false e =
        ap (λ (b : Bool). fed_if (not b) t.report r) e ∙ ap (λ (p : Report). fed_if true p r) (x.report_is e) ∙ sym (ap (λ (b : Bool). fed_if b q r) (flipped (fits q) (sym e ∙ x.full_is)))
      where
        flipped : (z : Bool) → false ≡ not z → z ≡ true
        flipped true g = refl
        flipped false g = absurd (false≢true g)
