-- `images::make` meets its contract: what was written is at the output's front.
-- Assumes nothing.
use Rattle.std.proofs.Common.{arith, sym, ◌∙◌}
use lib.ListN.{length-take}
use Rattle.image_make.proofs.Answers.{made_inside}
use Rattle.images.proofs.make.Goals as goal

pub slice_bounds-show-end : goal.slice_bounds-show-end
slice_bounds-show-end g c = let h = made_inside _ _ _ (sym c.make.ensures.value ∙ c.in-Ok.is) in omega (arith, h.fits)

pub slice_bounds-show-end-in-Ok : goal.slice_bounds-show-end-in-Ok
slice_bounds-show-end-in-Ok g c =
    let h = made_inside _ _ _ (sym c.make.ensures.value ∙ c.in-Ok.is) in omega (arith, h.fits, length-take c.in-Ok.length c.make.new.output)
