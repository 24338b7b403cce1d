-- `replay_lines::put_last_lines` meets its contract: module 0's line is written, and module 1's behind it.
use native.Mathlib.Omega.{arith}
use Rattle.text.proofs.Writing.{and_then}
use Rattle.replay_lines.proofs.put_last_lines.Goals as goal

pub returns : goal.returns
returns c = let p1 = c.put_last-next.ensures in
    let p2 = c.put_last.ensures in
    record { within = omega (arith, p1.within, p2.within); wrote = and_then (omega (arith, c.requires)) p1.wrote p2.wrote }
