-- `report_text::put_count` meets its contract: the count is written where its name ends.
use native.Mathlib.Omega.{arith}
use Rattle.text.proofs.Writing.{and_then}
use Rattle.report_text.proofs.put_count.Goals as goal

pub returns : goal.returns
returns c = let p1 = c.put-named.ensures in
    let p2 = rw c.from.ensures at c.put_field.ensures in
    record { within = omega (arith, c.requires, p1.next_is, p2.within); wrote = and_then (omega (arith, c.requires)) p1 p2.wrote }
