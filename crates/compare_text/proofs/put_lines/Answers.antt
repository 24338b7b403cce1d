-- `compare_text::put_lines` meets its contract: one line more is that of the entry.
-- Assumes nothing.
use Rattle.std.proofs.Common.{◌≡◌, ◌+◌, arith}
use Prim.Native.Nat.{suc}
use Rattle.compare_text.proofs.Laws.{lines_on}
use Rattle.compare_text.proofs.put_lines.Goals as goal

pub loop-entry-preserved : goal.loop-entry-preserved
loop-entry-preserved c =
    let i = c.loop-entry.entry-index in
    let e : suc i ≡ i + 1 = omega arith in
    lines_on c.args.entries.now i (i + 1) (omega arith) e (omega (arith, c.requires)) c.loop-entry.invariant c.put_line-next.ensures
