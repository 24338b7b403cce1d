-- `report_text::put_counts` meets its contract: the six lines are written one after the other.
use Prim.Native.Nat.{◌≤◌}
use native.Mathlib.Omega.{arith}
use lib.ListN.{length}
use Rattle.report_text.proofs.Within.{then_within}
use Rattle.report_text.proofs.put_counts.Goals as goal

pub returns : goal.returns
returns c = let inside : c.args.at ≤ length c.args.out.now = omega (arith, c.requires) in
    then_within inside
    (then_within inside
    (then_within inside
    (then_within inside (then_within inside c.put_count-masks.ensures c.put_count-ticks.ensures) c.put_count-powers.ensures)
    c.put_count-readings.ensures)
    c.put_count-bads.ensures)
    c.put_count.ensures
