-- `replays::put_end` meets its contract: the line of a tail, if there is one, and the last lines after it.
-- Assumes nothing.
use mathlib.Core.Path.{sym, ap}
use mathlib.Core.Bool.{Bool}
use mathlib.Core.List.{◌++◌}
use native.Mathlib.Omega.{arith}
use Rattle.rules.specs.Replay.{tail_line, last_lines}
use Rattle.text.proofs.Writing.{and_then, rewrote}
use Rattle.replays.proofs.put_end.Goals as goal

pub returns-then-short : goal.returns-then-short
returns-then-short c = let a = c.args in
    let p = c.put_tail-tail.ensures in
    let q = c.put_last_lines.ensures in
    record {
      within = omega (arith, p.within, q.within);
      wrote = rewrote (sym (ap (λ (b : Bool). tail_line a.number b ++ last_lines a.c) c.if-short.true)) (and_then (omega arith) p.wrote q.wrote);
    }
