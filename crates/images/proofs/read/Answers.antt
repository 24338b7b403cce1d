-- `images::read` meets its contract: what was written is at the output's front.
-- Assumes nothing.
use Rattle.std.proofs.Common.{arith, sym, ◌∙◌}
use lib.ListN.{length-take}
use Rattle.image_make.proofs.Answers.{read_inside}
use Rattle.images.proofs.read.Goals as goal

pub slice_bounds-show-end : goal.slice_bounds-show-end
slice_bounds-show-end g c = let h = read_inside _ _ (sym c.read_back.ensures.value ∙ c.in-Ok.is) in omega (arith, h.fits)

pub slice_bounds-show-end-in-Ok : goal.slice_bounds-show-end-in-Ok
slice_bounds-show-end-in-Ok g c =
    let h = read_inside _ _ (sym c.read_back.ensures.value ∙ c.in-Ok.is) in omega (arith, h.fits, length-take c.in-Ok.length c.read_back.new.output)
