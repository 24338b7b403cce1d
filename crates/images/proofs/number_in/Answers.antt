-- `images::number_in` meets its contract: what is left of the word gives, behind the number so far, what the whole does.
-- Assumes nothing.
use Rattle.std.proofs.Common.{sym, ◌∙◌}
use Rattle.images.proofs.Laws.{empty_word, full_word, goes_on, no_number, ends}
use Rattle.images.proofs.number_in.Goals as goal

pub returns-then-is_empty : goal.returns-then-is_empty
returns-then-is_empty c = empty_word _ (sym c.is_empty.ensures ∙ c.if-is_empty.true)

pub returns-in_err-number : goal.returns-in_err-number
returns-in_err-number c =
    rw c.from_residual.ensures
    (no_number _ _ _ c.loop-byte-test.true c.in_err-number.ensures ∙ c.loop-byte.invariant ∙ full_word _ (sym c.is_empty.ensures ∙ c.if-is_empty.false))

pub loop-byte-preserved : goal.loop-byte-preserved
loop-byte-preserved c = goes_on _ _ _ c.loop-byte-test.true c.in_ok-number.ensures ∙ c.loop-byte.invariant

pub returns : goal.returns
returns c = ends _ _ _ c.loop-byte-test.false ∙ c.loop-byte.invariant ∙ full_word _ (sym c.is_empty.ensures ∙ c.if-is_empty.false)
