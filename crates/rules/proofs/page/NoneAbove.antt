-- Document 02, T-01: "exactly if some count would pass 4,294,967,295": the test of a report is that none of its numbers is above.
-- Assumes nothing.
use Prim.Native.Nat.{ℕ, zero, suc, ◌≤◌}
use mathlib.Core.{Path.{◌≡◌, refl}, Logic.◌↔◌, Bool.{true}, List.{List, [], ◌∷◌}}
use native.Mathlib.Omega.{arith}
use lib.ListN.{get_or}
use borrow.Author.Tests.{leb-true, le-leb}
use Rattle.rules.specs.{Tests.◌≤?◌, Report.{Report, largest_count, row_fits, grid_fits, counts_fit, fits, NoneAbove}}
use Rattle.rules.specs.declared.Counts.{Counts}
use Rattle.rules.proofs.page.Choice.{and_true, and_6}

-- each count of a row, and each cell of a grid
row_none : (row : List ℕ) → row_fits row ≡ true → (column : ℕ) → get_or row column 0 ≤ largest_count
row_none [] e column = omega arith
row_none (count ∷ row) e zero = leb-true count largest_count (and_true (count ≤? largest_count) (row_fits row) e).0
row_none (count ∷ row) e (suc column) = row_none row (and_true (count ≤? largest_count) (row_fits row) e).1 column

row_fits_law : (row : List ℕ) → ((column : ℕ) → get_or row column 0 ≤ largest_count) → row_fits row ≡ true
row_fits_law [] none = refl
row_fits_law (count ∷ row) none = rw (le-leb count largest_count (none 0)) (row_fits_law row (λ column. none (suc column)))

grid_none : (grid : List (List ℕ)) → grid_fits grid ≡ true → (row column : ℕ) → get_or (get_or grid row []) column 0 ≤ largest_count
grid_none [] e row column = omega arith
grid_none (first ∷ grid) e zero column = row_none first (and_true (row_fits first) (grid_fits grid) e).0 column
grid_none (first ∷ grid) e (suc row) column = grid_none grid (and_true (row_fits first) (grid_fits grid) e).1 row column

grid_fits_law : (grid : List (List ℕ)) → ((row column : ℕ) → get_or (get_or grid row []) column 0 ≤ largest_count) → grid_fits grid ≡ true
grid_fits_law [] none = refl
grid_fits_law (first ∷ grid) none = rw (row_fits_law first (none 0)) (grid_fits_law grid (λ row. none (suc row)))

none_above : (r : Report) → fits r ≡ true → NoneAbove largest_count r
unfolding fits
none_above r e =
    let two = and_true (grid_fits r.grid) (counts_fit r.counts) e in
    let c : Counts = r.counts in
    let six =
    and_6 (c.masks ≤? largest_count) (c.ticks ≤? largest_count) (c.powers ≤? largest_count) (c.readings ≤? largest_count) (c.bads ≤? largest_count) (c.shorts ≤? largest_count)
    two.1
    in
    record {
      cells = grid_none r.grid two.0;
      masks = leb-true c.masks largest_count six.0;
      ticks = leb-true c.ticks largest_count six.1;
      powers = leb-true c.powers largest_count six.2;
      readings = leb-true c.readings largest_count six.3;
      bads = leb-true c.bads largest_count six.4;
      shorts = leb-true c.shorts largest_count six.5;
    }

none_fits : (r : Report) → NoneAbove largest_count r → fits r ≡ true
unfolding fits
none_fits r none =
    let c : Counts = r.counts in
    rw (
      grid_fits_law r.grid none.cells,
      le-leb c.masks largest_count none.masks,
      le-leb c.ticks largest_count none.ticks,
      le-leb c.powers largest_count none.powers,
      le-leb c.readings largest_count none.readings,
      le-leb c.bads largest_count none.bads,
      le-leb c.shorts largest_count none.shorts,
    )

pub fits_exactly : (r : Report) → (fits r ≡ true) ↔ NoneAbove largest_count r
fits_exactly r = (none_above r, none_fits r)
