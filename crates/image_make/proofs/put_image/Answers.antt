-- `image_make::put_image` meets its contract: the full parts are all of the payload's, or all but the last.
-- Assumes nothing.
use mathlib.Core.Path.{◌∙◌}
use Rattle.image_make.proofs.Laws.{all_and_last, all_full}
use Rattle.image_make.proofs.put_image.Goals as goal

pub returns-then-full-n : goal.returns-then-full-n
returns-then-full-n c = let a = c.args in
    c.put_last.ensures
    ∙ all_and_last a.version a.payload.now a.output.now c.requires.0 c.if-full-n.true c.put_records.ensures

pub returns-else-full-n : goal.returns-else-full-n
returns-else-full-n c = let a = c.args in
    all_full a.version a.payload.now a.output.now c.requires.0 c.if-full-n.false c.put_records.ensures
