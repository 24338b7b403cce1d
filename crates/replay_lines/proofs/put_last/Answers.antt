-- `replay_lines::put_last` meets its contract: the five parts of the line are written one after the other.
use native.Mathlib.Omega.{arith}
use Rattle.text.proofs.Writing.{and_then}
use Rattle.replay_lines.proofs.put_last.Goals as goal

pub returns : goal.returns
returns c = let p1 = c.put-named.ensures in
    let p2 = c.put_phase-spaced.ensures in
    let p3 = c.put-counted.ensures in
    let p4 = c.put_decimal-end.ensures in
    let p5 = c.put_line_end.ensures in
    let row = and_then (omega (arith, c.requires)) (and_then (omega (arith, c.requires)) (and_then (omega (arith, c.requires)) p1 p2.wrote) p3) p4.wrote in
    record {
      within = omega (arith, p1.next_is, p2.within, p3.next_is, p4.within, p5.within);
      wrote = and_then (omega (arith, c.requires)) row p5.wrote;
    }
