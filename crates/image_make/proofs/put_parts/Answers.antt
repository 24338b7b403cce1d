-- `image_make::put_parts` meets its contract: past each record the front of the output holds the parts so far, and the rest is as it came.
-- Assumes nothing.
use native.Mathlib.Omega.{arith}
use borrow.Author.Rules.{rules}
use Rattle.image_make.proofs.Laws.{part_behind}
use Rattle.image_make.proofs.put_parts.Goals as goal

pub loop-i-preserved : goal.loop-i-preserved
loop-i-preserved c = let a = c.args in
    (search rules, part_behind c.loop-i.i a.image.now a.output.now (omega arith) c.loop-i.invariant.1 c.put_part.ensures)
