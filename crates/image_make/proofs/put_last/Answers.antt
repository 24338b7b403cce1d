-- `image_make::put_last` meets its contract: what is left of the payload, over zeros, is the last part padded.
-- Assumes nothing.
use Prim.Native.Nat.{ℕ, ◌*◌}
use mathlib.Core.Path.{◌∙◌, ap}
use mathlib.Core.List.{List}
use borrow.Author.Rules.{rules}
use Rattle.rules.specs.Bytes.{splice}
use Rattle.rules.specs.Made.{made_record}
use Rattle.image_make.proofs.Laws.{record_lent, one_record, part_padded}
use Rattle.image_make.proofs.put_last.Goals as goal

pub returns : goal.returns
returns c = let a = c.args in
    let padded = part_padded (a.full * 112) a.payload.now c.requires.full_bound.1 c.requires.full_bound.2 c.copy.ensures in
    record_lent a.full a.full a.n a.version a.output.now _ _ c.requires.full_in_bounds (search rules) (one_record a.full a.n a.version _ _ (search rules) (search rules) c.put_records.ensures)
    ∙ ap (λ (part : List ℕ). splice (a.full * 128) (made_record a.full a.n a.version part) a.output.now) padded
