-- Document 02, T-01: the laws of counts. Raising a count, adding reports number by number, and what a log adds to any report.
-- Assumes nothing.
use Prim.Native.Nat.{ℕ, zero, suc, ◌+◌, ◌-◌}
use mathlib.Core.{Path.{◌≡◌, refl, sym, ◌∙◌, ap}, Bool.{Bool, true, false}, List.{List, [], ◌∷◌}}
use native.Mathlib.Omega.{arith}
use lib.ListN.{length, get_or, set, replicate, length-set}
use Rattle.rules.specs.{Record.Whole, Log.{record_at, records_in, short_tail}, Replay.{replay_start, whole_after}, History.All}
use Rattle.rules.specs.Report.{Report, nothing_counted, Counted, answered, masked, ticked, powered, measured, bad, record_counted, raised_at, raised, report_after, with_tail, with_log, added_row, added_grid, ◌plus◌}

-- adding is in any order
pub row_swap : (a b : List ℕ) → added_row a b ≡ added_row b a
row_swap [] [] = refl
row_swap [] (y ∷ b) = refl
row_swap (x ∷ a) [] = refl
row_swap (x ∷ a) (y ∷ b) = let e : x + y ≡ y + x = omega arith in ap (λ (n : ℕ). n ∷ added_row a b) e ∙ ap (λ (l : List ℕ). (y + x) ∷ l) (row_swap a b)

pub grid_swap : (a b : List (List ℕ)) → added_grid a b ≡ added_grid b a
grid_swap [] [] = refl
grid_swap [] (y ∷ b) = refl
grid_swap (x ∷ a) [] = refl
grid_swap (x ∷ a) (y ∷ b) = ap (λ (l : List ℕ). l ∷ added_grid a b) (row_swap x y) ∙ ap (λ (g : List (List ℕ)). added_row y x ∷ g) (grid_swap a b)

pub row_assoc : (a b c : List ℕ) → added_row (added_row a b) c ≡ added_row a (added_row b c)
row_assoc [] b c = refl
row_assoc (x ∷ a) [] c = refl
row_assoc (x ∷ a) (y ∷ b) [] = refl
row_assoc (x ∷ a) (y ∷ b) (z ∷ c) =
    let e : (x + y) + z ≡ x + (y + z) = omega arith in
    ap (λ (n : ℕ). n ∷ added_row (added_row a b) c) e ∙ ap (λ (l : List ℕ). (x + (y + z)) ∷ l) (row_assoc a b c)

pub grid_assoc : (a b c : List (List ℕ)) → added_grid (added_grid a b) c ≡ added_grid a (added_grid b c)
grid_assoc [] b c = refl
grid_assoc (x ∷ a) [] c = refl
grid_assoc (x ∷ a) (y ∷ b) [] = refl
grid_assoc (x ∷ a) (y ∷ b) (z ∷ c) =
    ap (λ (l : List ℕ). l ∷ added_grid (added_grid a b) c) (row_assoc x y z) ∙ ap (λ (g : List (List ℕ)). added_row x (added_row y z) ∷ g) (grid_assoc a b c)

-- a count raised in the one of two that are added
row_raised : (a b : List ℕ) (k : ℕ) → added_row a (raised_at k b) ≡ raised_at k (added_row a b)
row_raised [] b k = refl
row_raised (x ∷ a) [] k = refl
row_raised (x ∷ a) (y ∷ b) zero = let e : x + (y + 1) ≡ (x + y) + 1 = omega arith in ap (λ (n : ℕ). n ∷ added_row a b) e
row_raised (x ∷ a) (y ∷ b) (suc k) = ap (λ (l : List ℕ). (x + y) ∷ l) (row_raised a b k)

grid_raised : (a b : List (List ℕ)) (h k : ℕ) → added_grid a (set b h (raised_at k (get_or b h []))) ≡ set (added_grid a b) h (raised_at k (get_or (added_grid a b) h []))
grid_raised [] b h k = refl
grid_raised (x ∷ a) [] h k = refl
grid_raised (x ∷ a) (y ∷ b) zero k = ap (λ (l : List ℕ). l ∷ added_grid a b) (row_raised x y k)
grid_raised (x ∷ a) (y ∷ b) (suc h) k = ap (λ (g : List (List ℕ)). added_row x y ∷ g) (grid_raised a b h k)

-- reports are equal where their numbers are
pub record SameNumbers (r q : Report) : Type 0 where
  pub grids : r.grid ≡ q.grid
  pub masks : r.counts.masks ≡ q.counts.masks
  pub ticks : r.counts.ticks ≡ q.counts.ticks
  pub powers : r.counts.powers ≡ q.counts.powers
  pub readings : r.counts.readings ≡ q.counts.readings
  pub bads : r.counts.bads ≡ q.counts.bads
  pub shorts : r.counts.shorts ≡ q.counts.shorts

pub equal : {r q : Report} → SameNumbers r q → r ≡ q
equal s = λ i. record {
  grid = s.grids i;
  counts = record { masks = s.masks i; ticks = s.ticks i; powers = s.powers i; readings = s.readings i; bads = s.bads i; shorts = s.shorts i };
}

pub plus_swap : (r q : Report) → r plus q ≡ q plus r
plus_swap r q =
    equal (record {
      grids = grid_swap r.grid q.grid;
      masks = omega arith;
      ticks = omega arith;
      powers = omega arith;
      readings = omega arith;
      bads = omega arith;
      shorts = omega arith;
    })

pub plus_assoc : (r q p : Report) → (r plus q) plus p ≡ r plus (q plus p)
plus_assoc r q p =
    equal (record {
      grids = grid_assoc r.grid q.grid p.grid;
      masks = omega arith;
      ticks = omega arith;
      powers = omega arith;
      readings = omega arith;
      bads = omega arith;
      shorts = omega arith;
    })

pub plus_raised : (r q : Report) (x : Counted) → r plus raised x q ≡ raised x (r plus q)
plus_raised r q (answered host status) = equal (record { grids = grid_raised r.grid q.grid (host - 1) status; masks = refl; ticks = refl; powers = refl; readings = refl; bads = refl; shorts = refl })
plus_raised r q masked = equal (record { grids = refl; masks = omega arith; ticks = refl; powers = refl; readings = refl; bads = refl; shorts = refl })
plus_raised r q ticked = equal (record { grids = refl; masks = refl; ticks = omega arith; powers = refl; readings = refl; bads = refl; shorts = refl })
plus_raised r q powered = equal (record { grids = refl; masks = refl; ticks = refl; powers = omega arith; readings = refl; bads = refl; shorts = refl })
plus_raised r q measured = equal (record { grids = refl; masks = refl; ticks = refl; powers = refl; readings = omega arith; bads = refl; shorts = refl })
plus_raised r q bad = equal (record { grids = refl; masks = refl; ticks = refl; powers = refl; readings = refl; bads = omega arith; shorts = refl })

-- a tail's
plus_tail : (r q : Report) (short : Bool) → r plus with_tail short q ≡ with_tail short (r plus q)
plus_tail r q true = equal (record { grids = refl; masks = refl; ticks = refl; powers = refl; readings = refl; bads = refl; shorts = omega arith })
plus_tail r q false = refl

-- a log raises what it raises, whatever the report is that it is counted on
pub after_plus : (r q : Report) (w : Whole) (log : List ℕ) (j : ℕ) → report_after (r plus q) w log j ≡ r plus report_after q w log j
unfolding report_after
after_plus r q w log zero = refl
after_plus r q w log (suc j) =
    let x : Counted = record_counted (whole_after w log j) (record_at log j) in
    ap (raised x) (after_plus r q w log j) ∙ sym (plus_raised r (report_after q w log j) x)

pub log_plus : (r q : Report) (log : List ℕ) → with_log (r plus q) log ≡ r plus with_log q log
log_plus r q log =
    ap (with_tail (short_tail log)) (after_plus r q replay_start log (records_in log)) ∙ sym (plus_tail r (report_after q replay_start log (records_in log)) (short_tail log))

-- four rows of twelve
pub record Shaped (grid : List (List ℕ)) : Type 0 where
  pub hosts : length grid ≡ 4
  pub columns : All (λ row. length row ≡ 12) grid

pub shaped_nothing : Shaped nothing_counted.grid
shaped_nothing = record { hosts = refl; columns = (refl, (refl, (refl, (refl, tt)))) }

rows_raised : (grid : List (List ℕ)) (h k : ℕ) → All (λ row. length row ≡ 12) grid → All (λ row. length row ≡ 12) (set grid h (raised_at k (get_or grid h [])))
rows_raised [] h k a = tt
rows_raised (row ∷ grid) zero k a = (length-set row k (get_or row k 0 + 1) ∙ a.0, a.1)
rows_raised (row ∷ grid) (suc h) k a = (a.0, rows_raised grid h k a.1)

shaped_raised : (x : Counted) (r : Report) → Shaped r.grid → Shaped (raised x r).grid
shaped_raised (answered host status) r s =
    record {
      hosts = length-set r.grid (host - 1) (raised_at status (get_or r.grid (host - 1) [])) ∙ s.hosts;
      columns = rows_raised r.grid (host - 1) status s.columns;
    }
shaped_raised masked r s = s
shaped_raised ticked r s = s
shaped_raised powered r s = s
shaped_raised measured r s = s
shaped_raised bad r s = s

pub shaped_after : (r : Report) (w : Whole) (log : List ℕ) (j : ℕ) → Shaped r.grid → Shaped (report_after r w log j).grid
unfolding report_after
shaped_after r w log zero s = s
shaped_after r w log (suc j) s = shaped_raised (record_counted (whole_after w log j) (record_at log j)) (report_after r w log j) (shaped_after r w log j s)

pub shaped_log : (r : Report) (log : List ℕ) → Shaped r.grid → Shaped (with_log r log).grid
shaped_log r log s = shaped_after r replay_start log (records_in log) s

-- adding nothing changes nothing
row_nothing : (row : List ℕ) (n : ℕ) → length row ≡ n → added_row row (replicate n 0) ≡ row
row_nothing [] n e = refl
row_nothing (x ∷ row) zero e = absurd (omega arith)
row_nothing (x ∷ row) (suc n) e =
    let z : x + 0 ≡ x = omega arith in
    ap (λ (k : ℕ). k ∷ added_row row (replicate n 0)) z ∙ ap (λ (l : List ℕ). x ∷ l) (row_nothing row n (omega arith))

grid_nothing : (grid : List (List ℕ)) (n : ℕ) → length grid ≡ n → All (λ row. length row ≡ 12) grid → added_grid grid (replicate n (replicate 12 0)) ≡ grid
grid_nothing [] n e a = refl
grid_nothing (row ∷ grid) zero e a = absurd (omega arith)
grid_nothing (row ∷ grid) (suc n) e a =
    ap (λ (l : List ℕ). l ∷ added_grid grid (replicate n (replicate 12 0))) (row_nothing row 12 a.0) ∙ ap (λ (g : List (List ℕ)). row ∷ g) (grid_nothing grid n (omega arith) a.1)

pub plus_nothing : (r : Report) → Shaped r.grid → r plus nothing_counted ≡ r
plus_nothing r s =
    equal (record {
      grids = grid_nothing r.grid 4 s.hosts s.columns;
      masks = omega arith;
      ticks = omega arith;
      powers = omega arith;
      readings = omega arith;
      bads = omega arith;
      shorts = omega arith;
    })

-- what a log counts, alone
abbrev pub counted : (log : List ℕ) → Report
counted log = with_log nothing_counted log

-- feeding a log adds what it counts, number by number
pub adds : (r : Report) (log : List ℕ) → Shaped r.grid → with_log r log ≡ r plus counted log
adds r log s = ap (λ (q : Report). with_log q log) (sym (plus_nothing r s)) ∙ log_plus r nothing_counted log
