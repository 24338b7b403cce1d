-- `bytes_base::all_zero` meets its contract: the fold goes over all of the slice.
-- Assumes nothing.
use mathlib.Core.{Path.◌∙◌, Bool.{true, ◌&&◌}}
use borrow.Author.Rules.{rules}
use lib.Dec.{eqb}
use Rattle.std.proofs.lemmas.{Iterator.YieldsList-from_slice, Iterator.Consumers.fold_from_yields_List}
use Rattle.bytes_base.proofs.Laws.{zeros_fold}
use Rattle.bytes_base.proofs.all_zero.Goals as goal

pub returns : goal.returns
returns c =
    fold_from_yields_List _ (λ zero byte. zero && eqb byte 0) true _ c.fold.ensures.ran (YieldsList-from_slice c.args.bytes.now cc) (λ a x b q k. search rules)
    ∙ zeros_fold c.args.bytes.now
