-- `abi_images::make` meets its contract: the length that was written is told as it is.
-- Assumes nothing.
use mathlib.Core.Path.{sym, ◌∙◌, ap}
use Rattle.image_make.proofs.Answers.{made_inside}
use Rattle.abi_images.specs.Told.{told_made}
use Rattle.abi_images.proofs.Laws.{as_number, told_as_it_is}
use Rattle.abi_images.proofs.make.Goals as goal

pub overflow_cast-result : goal.overflow_cast-result
overflow_cast-result c = as_number _ (made_inside _ _ _ (sym c.in-Ok.ensures.value)).few

pub returns-in-Ok-clause-value : goal.returns-in-Ok-clause-value
returns-in-Ok-clause-value c = told_as_it_is _ (made_inside _ _ _ (sym c.in-Ok.ensures.value)).few ∙ ap told_made c.in-Ok.ensures.value
