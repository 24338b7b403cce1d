-- What it says of a call that its checks have passed.
-- Assumes nothing.
use mathlib.Core.{Path.◌≡◌, Bool.{Bool, not, ◌||◌}, List.List}
use Prim.Native.Nat.{ℕ, ◌+◌, ◌≤◌}
use lib.ListN.{length}
use borrow.Author.Tests.{eqb-true, eqb-false, ltb-false, not-false}
use Rattle.rules.specs.{Tests.{◌=?◌, ◌<?◌}, Numbers.{area_size, longest_piece, last_context}, Refusals.verdict, Transfer.{start_checks, send_checks}}
use Rattle.rules.specs.{declared.Transfer.Transfer}
use Rattle.rules.proofs.{page.Choice.or_false, page.Passed.passed}
use Rattle.std.specs.Prelude.{Ok}

-- a Start that is accepted: a number is left to give
pub start_left : (t : Transfer) (given : ℕ) (taken : Bool) → verdict (start_checks t given taken) ≡ Ok tt → given ≡ last_context → ⊥
start_left t given taken e = eqb-false given last_context (passed (start_checks t given taken) e).1.1.1.0

-- a Send that is accepted: its length is that of its piece, it ends inside the area, and it goes on where the last one stopped
pub record SendFits (t : Transfer) (offset size : ℕ) (piece : List ℕ) : Type 0 where
  pub whole : size ≡ length piece
  pub inside : offset + size ≤ area_size
  pub goes_on : offset ≡ t.received

pub send_fits : (t : Transfer) (context offset size : ℕ) (piece : List ℕ) → verdict (send_checks t context offset size piece) ≡ Ok tt
    → SendFits t offset size piece
send_fits t context offset size piece e =
    let tests = passed (send_checks t context offset size piece) e in
    let long = or_false (not (size =? length piece) || size =? 0 || longest_piece <? size) (area_size <? offset + size) tests.0 in
    let piece_long = or_false (not (size =? length piece) || size =? 0) (longest_piece <? size) long.0 in
    let exact = or_false (not (size =? length piece)) (size =? 0) piece_long.0 in
    record {
      whole = eqb-true size (length piece) (not-false (size =? length piece) exact.0);
      inside = ltb-false area_size (offset + size) long.1;
      goes_on = eqb-true offset t.received (not-false (offset =? t.received) tests.1.1.0);
    }
