-- Document 02, T-01: the report of logs that were all taken is the sum of what each counts; so their order is no matter, and the reports of two lists add up.
-- Assumes nothing.
use Prim.Native.Nat.{ℕ, suc, ◌+◌, ◌≤◌}
use mathlib.Core.{Path.{◌≡◌, refl, sym, ◌∙◌, ap, subst}, Logic.◌↔◌, Bool.{Bool, true, false, false≢true}, List.{List, [], ◌∷◌, ◌++◌}}
use native.Mathlib.Omega.{arith}
use lib.ListN.{length}
use borrow.Author.Tests.{leb-true, le-leb}
use Rattle.rules.specs.{Tests.◌≤?◌, History.{All, leads_to, Throughout}}
use Rattle.rules.specs.Report.{Report, nothing_counted, with_log, largest_count, row_fits, grid_fits, counts_fit, fits, fed_if, feed, fed_next, report_of, AllTaken, added_row, added_grid, ◌plus◌, Reordered, as_they_are, later, two_swapped, and_again}
use Rattle.rules.specs.declared.Counts.{Counts}
use Rattle.rules.proofs.{page.Choice.{and_true, and_6}, page.Counting.{plus_swap, plus_assoc, plus_nothing, Shaped, shaped_nothing, shaped_log, counted, adds}}

-- a log that was taken has its report
pub taken_report : (r : Report) (log : List ℕ) → (feed r log).taken ≡ true → (fits (with_log r log) ≡ true) × (fed_next r log ≡ with_log r log)
unfolding feed
taken_report r log e = go (fits (with_log r log)) refl e
  where
    go : (b : Bool) → fits (with_log r log) ≡ b → (feed r log).taken ≡ true → (fits (with_log r log) ≡ true) × (fed_next r log ≡ with_log r log)
    go true f g = (f, ap (λ (b : Bool). (fed_if b (with_log r log) r).report) f)
    go false f g = absurd (false≢true (sym (ap (λ (b : Bool). (fed_if b (with_log r log) r).taken) f) ∙ g))

pub fits_taken : (r : Report) (log : List ℕ) → fits (with_log r log) ≡ true → ((feed r log).taken ≡ true) × (fed_next r log ≡ with_log r log)
unfolding feed
fits_taken r log f = (ap (λ (b : Bool). (fed_if b (with_log r log) r).taken) f, ap (λ (b : Bool). (fed_if b (with_log r log) r).report) f)

-- where a sum fits, the first of the two does
row_first : (a b : List ℕ) → length a ≡ length b → row_fits (added_row a b) ≡ true → row_fits a ≡ true
row_first [] b l e = refl
row_first (x ∷ a) [] l e = absurd (omega arith)
row_first (x ∷ a) (y ∷ b) l e =
    let q = and_true (x + y ≤? largest_count) (row_fits (added_row a b)) e in
    let small : x ≤ largest_count = omega (arith, leb-true (x + y) largest_count q.0) in
    rw (le-leb x largest_count small) (row_first a b (omega arith) q.1)

grid_first : (a b : List (List ℕ)) → length a ≡ length b → All (λ row. length row ≡ 12) a → All (λ row. length row ≡ 12) b → grid_fits (added_grid a b) ≡ true → grid_fits a ≡ true
grid_first [] b l p q e = refl
grid_first (x ∷ a) [] l p q e = absurd (omega arith)
grid_first (x ∷ a) (y ∷ b) l p q e =
    let k = and_true (row_fits (added_row x y)) (grid_fits (added_grid a b)) e in
    rw (row_first x y (p.0 ∙ sym q.0) k.0) (grid_first a b (omega arith) p.1 q.1 k.1)

count_first : (a b : ℕ) → (a + b ≤? largest_count) ≡ true → (a ≤? largest_count) ≡ true
count_first a b e = le-leb a largest_count (omega (arith, leb-true (a + b) largest_count e))

pub fits_first : (r q : Report) → Shaped r.grid → Shaped q.grid → fits (r plus q) ≡ true → fits r ≡ true
unfolding fits
fits_first r q s t e =
    let two = and_true (grid_fits (added_grid r.grid q.grid)) (counts_fit (r plus q).counts) e in
    let c : Counts = r.counts in
    let d : Counts = q.counts in
    let six = and_6 (c.masks + d.masks ≤? largest_count) (c.ticks + d.ticks ≤? largest_count) (c.powers + d.powers ≤? largest_count) (c.readings + d.readings ≤? largest_count)
    (c.bads + d.bads ≤? largest_count) (c.shorts + d.shorts ≤? largest_count) two.1 in
    rw (
      grid_first r.grid q.grid (s.hosts ∙ sym t.hosts) s.columns t.columns two.0,
      count_first c.masks d.masks six.0,
      count_first c.ticks d.ticks six.1,
      count_first c.powers d.powers six.2,
      count_first c.readings d.readings six.3,
      count_first c.bads d.bads six.4,
      count_first c.shorts d.shorts six.5,
    )

-- what logs count together
abbrev pub together : List (List ℕ) → Report
together [] = nothing_counted
together (log ∷ logs) = counted log plus together logs

pub shaped_plus : (a b : List (List ℕ)) → Shaped a → Shaped b → Shaped (added_grid a b)
shaped_plus a b s t = record { hosts = long a b (s.hosts ∙ sym t.hosts) ∙ s.hosts; columns = rows a b (s.hosts ∙ sym t.hosts) s.columns t.columns }
  where
    long : (a b : List (List ℕ)) → length a ≡ length b → length (added_grid a b) ≡ length a
    long [] b e = refl
    long (x ∷ a) [] e = absurd (omega arith)
    long (x ∷ a) (y ∷ b) e = ap suc (long a b (omega arith))

    row_long : (a b : List ℕ) → length a ≡ length b → length (added_row a b) ≡ length a
    row_long [] b e = refl
    row_long (x ∷ a) [] e = absurd (omega arith)
    row_long (x ∷ a) (y ∷ b) e = ap suc (row_long a b (omega arith))

    rows : (a b : List (List ℕ)) → length a ≡ length b → All (λ row. length row ≡ 12) a → All (λ row. length row ≡ 12) b → All (λ row. length row ≡ 12) (added_grid a b)
    rows [] b e p q = tt
    rows (x ∷ a) [] e p q = absurd (omega arith)
    rows (x ∷ a) (y ∷ b) e p q = (row_long x y (p.0 ∙ sym q.0) ∙ p.0, rows a b (omega arith) p.1 q.1)

pub shaped_together : (logs : List (List ℕ)) → Shaped (together logs).grid
shaped_together [] = shaped_nothing
shaped_together (log ∷ logs) = shaped_plus (counted log).grid (together logs).grid (shaped_log nothing_counted log shaped_nothing) (shaped_together logs)

-- logs that are all taken are added
abbrev AllTakenOn : Report → List (List ℕ) → Type 0
AllTakenOn r logs = Throughout fed_next (λ q log. (feed q log).taken ≡ true) r logs

pub added : (r : Report) (logs : List (List ℕ)) → Shaped r.grid → AllTakenOn r logs → leads_to fed_next r logs ≡ r plus together logs
added r [] s t = sym (plus_nothing r s)
added r (log ∷ logs) s t =
    let e : fed_next r log ≡ with_log r log = (taken_report r log t.0).1 in
    added (fed_next r log) logs (subst (λ (q : Report). Shaped q.grid) (sym e) (shaped_log r log s)) t.1
    ∙ ap (λ (q : Report). q plus together logs) (e ∙ adds r log s)
    ∙ plus_assoc r (counted log) (together logs)

-- and their sum fits
sum_fits : (r : Report) (logs : List (List ℕ)) → Shaped r.grid → fits r ≡ true → AllTakenOn r logs → fits (leads_to fed_next r logs) ≡ true
sum_fits r [] s f t = f
sum_fits r (log ∷ logs) s f t =
    let q = taken_report r log t.0 in
    sum_fits (fed_next r log) logs (subst (λ (p : Report). Shaped p.grid) (sym q.1) (shaped_log r log s)) (subst (λ (p : Report). fits p ≡ true) (sym q.1) q.0) t.1

-- where the sum fits, all are taken
all_taken : (r : Report) (logs : List (List ℕ)) → Shaped r.grid → fits (r plus together logs) ≡ true → AllTakenOn r logs
all_taken r [] s f = tt
all_taken r (log ∷ logs) s f =
    let e : r plus together (log ∷ logs) ≡ with_log r log plus together logs = sym (plus_assoc r (counted log) (together logs)) ∙ ap (λ (q : Report). q plus together logs) (sym (adds r log s)) in
    let g : fits (with_log r log plus together logs) ≡ true = subst (λ (q : Report). fits q ≡ true) e f in
    let t = fits_taken r log (fits_first (with_log r log) (together logs) (shaped_log r log s) (shaped_together logs) g) in
    (t.0, all_taken (fed_next r log) logs (subst (λ (q : Report). Shaped q.grid) (sym t.1) (shaped_log r log s)) (subst (λ (q : Report). fits (q plus together logs) ≡ true) (sym t.1) g))

-- in another order they come to the same
reordered : {a b : List (List ℕ)} → Reordered a b → together a ≡ together b
reordered as_they_are = refl
reordered (later {log} p) = ap (λ (q : Report). counted log plus q) (reordered p)
reordered (two_swapped {first} {second} {logs}) =
    sym (plus_assoc (counted first) (counted second) (together logs))
    ∙ ap (λ (q : Report). q plus together logs) (plus_swap (counted first) (counted second))
    ∙ plus_assoc (counted second) (counted first) (together logs)
reordered (and_again p q) = reordered p ∙ reordered q

together_join : (a b : List (List ℕ)) → together (a ++ b) ≡ together a plus together b
together_join [] b = sym (plus_swap nothing_counted (together b) ∙ plus_nothing (together b) (shaped_together b))
together_join (log ∷ a) b = ap (λ (q : Report). counted log plus q) (together_join a b) ∙ sym (plus_assoc (counted log) (together a) (together b))

-- from nothing
pub is_together : (logs : List (List ℕ)) → AllTaken logs → report_of logs ≡ together logs
is_together logs t = added nothing_counted logs shaped_nothing t ∙ plus_swap nothing_counted (together logs) ∙ plus_nothing (together logs) (shaped_together logs)

nothing_fits : fits nothing_counted ≡ true
unfolding fits
nothing_fits = refl

all_taken_of : (logs : List (List ℕ)) → fits (together logs) ≡ true → AllTaken logs
all_taken_of logs f =
    all_taken nothing_counted logs shaped_nothing
    (subst (λ (q : Report). fits q ≡ true) (sym (plus_swap nothing_counted (together logs) ∙ plus_nothing (together logs) (shaped_together logs))) f)

together_fits : (logs : List (List ℕ)) → AllTaken logs → fits (together logs) ≡ true
together_fits logs t = subst (λ (q : Report). fits q ≡ true) (is_together logs t) (sum_fits nothing_counted logs shaped_nothing nothing_fits t)

pub any_order : (logs others : List (List ℕ)) → AllTaken logs → Reordered logs others → AllTaken others × (report_of others ≡ report_of logs)
any_order logs others t p =
    let u : AllTaken others = all_taken_of others (subst (λ (q : Report). fits q ≡ true) (reordered p) (together_fits logs t)) in
    (u, is_together others u ∙ sym (reordered p) ∙ sym (is_together logs t))

-- two lists that are taken together are each taken, and their reports add up
pub each_list : (first second : List (List ℕ)) → AllTaken (first ++ second) → AllTaken first × AllTaken second
each_list first second t =
    let f : fits (together first plus together second) ≡ true = subst (λ (q : Report). fits q ≡ true) (together_join first second) (together_fits (first ++ second) t) in (
      all_taken_of first (fits_first (together first) (together second) (shaped_together first) (shaped_together second) f),
      all_taken_of second (fits_first (together second) (together first) (shaped_together second) (shaped_together first) (subst (λ (q : Report). fits q ≡ true) (plus_swap (together first) (together second)) f)),
    )

-- what two lists that were each taken count together is the sum of their reports
both_together : (first second : List (List ℕ)) → AllTaken first → AllTaken second → together (first ++ second) ≡ report_of first plus report_of second
both_together first second a b =
    together_join first second
    ∙ ap (λ (q : Report). q plus together second) (sym (is_together first a)) ∙ ap (λ (q : Report). report_of first plus q) (sym (is_together second b))

pub two_lists : (first second : List (List ℕ)) → AllTaken (first ++ second) → report_of (first ++ second) ≡ report_of first plus report_of second
two_lists first second t =
    let each = each_list first second t in
    is_together (first ++ second) t ∙ both_together first second each.0 each.1

-- they are taken together exactly where that sum fits
pub two_machines : (first second : List (List ℕ)) → AllTaken first → AllTaken second → AllTaken (first ++ second) ↔ (fits (report_of first plus report_of second) ≡ true)
two_machines first second a b =
    let sum = both_together first second a b in (
      λ t. subst (λ (q : Report). fits q ≡ true) sum (together_fits (first ++ second) t),
      λ f. all_taken_of (first ++ second) (subst (λ (q : Report). fits q ≡ true) (sym sum) f),
    )
