-- `report_text::put_host` meets its contract: the host's name, its number and its row are written one after the other.
use Prim.Native.Nat.{◌≤◌}
use native.Mathlib.Omega.{arith}
use lib.ListN.{length}
use Rattle.report_text.proofs.Within.{exactly, then_within}
use Rattle.report_text.proofs.put_host.Goals as goal

pub returns : goal.returns
returns c = let inside : c.args.at ≤ length c.args.out.now = omega (arith, c.requires) in
    then_within inside (then_within inside (exactly c.put-named.ensures) c.put_decimal-numbered.ensures) c.put_row.ensures
