-- `image_make::read_back` meets its contract: what the image check finds decides first, and a good image is 1 to 128 whole records.
-- Assumes nothing.
use native.Mathlib.Omega.{arith}
use Rattle.image_make.proofs.Answers.{good_is_sized}
use Rattle.image_make.proofs.read_back.Goals as goal

pub put_parts-requires : goal.put_parts-requires
put_parts-requires c = let sized = good_is_sized c.args.image.now _ c.image.ensures c.in_ok-map_err.ensures.variant in
    (sized.few, omega (arith, sized.whole), c.if-output-length.false)
