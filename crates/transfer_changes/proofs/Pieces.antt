-- A law of an accepted piece.
-- Assumes nothing.
use mathlib.Core.{Path.{◌≡◌}, Bool.{not, ◌||◌}, List.List}
use Prim.Native.Nat.{ℕ, ◌+◌, ◌≤◌}
use lib.{ListN.{length}}
use borrow.Author.Tests.{ltb-false}
use Rattle.rules.{specs.Tests.{◌=?◌, ◌<?◌}, specs.Numbers.{area_size, longest_piece}, specs.Refusals.verdict, specs.Transfer.send_checks}
use Rattle.rules.{specs.declared.Transfer.Transfer, proofs.page.Choice.or_false, proofs.page.Passed.passed}
use Rattle.std.specs.Prelude.{Ok}

-- a Send that is accepted has a piece of 512 bytes at most
pub piece_short : (t : Transfer) (context offset size : ℕ) (piece : List ℕ) → verdict (send_checks t context offset size piece) ≡ Ok tt → size ≤ 512
piece_short t context offset size piece e =
    let tests = passed (send_checks t context offset size piece) e in
    let long = or_false (not (size =? length piece) || size =? 0 || longest_piece <? size) (area_size <? offset + size) tests.0 in
    ltb-false longest_piece size (or_false (not (size =? length piece) || size =? 0) (longest_piece <? size) long.0).1
