-- `bytes_base::same` meets its contract: the fold goes over all of both slices.
-- Assumes nothing.
use mathlib.Core.{Path.◌∙◌, Bool.{true, ◌&&◌}}
use borrow.Author.Rules.{rules}
use lib.Dec.{eqb}
use Rattle.std.proofs.lemmas.{Iterator.{YieldsList-from_slice, YieldsList-from_zip}, Iterator.Consumers.fold_from_yields_List}
use Rattle.bytes_base.proofs.Laws.{same_lengths, same_fold}
use Rattle.bytes_base.proofs.same.Goals as goal

pub returns-then-a-b : goal.returns-then-a-b
returns-then-a-b c = same_lengths c.args.a.now c.args.b.now c.if-a-b.true

pub returns : goal.returns
returns c =
    fold_from_yields_List _ (λ equal pair. equal && eqb pair.0 pair.1) true _ c.fold.ensures.ran
    (YieldsList-from_zip (YieldsList-from_slice c.args.a.now cc) (YieldsList-from_slice c.args.b.now cc)) (λ a x b q k. search rules)
    ∙ same_fold c.args.a.now c.args.b.now c.if-a-b.false
