-- `image_make::put_records` meets its contract: past each record the front of the output holds those so far, and the rest is as it came.
-- Assumes nothing.
use Prim.Native.Nat.{ℕ, ◌+◌, ◌*◌}
use mathlib.Core.Path.{◌∙◌, ap}
use mathlib.Core.List.{List}
use native.Mathlib.Omega.{arith}
use borrow.Author.Rules.{rules}
use Rattle.rules.specs.Bytes.{splice}
use Rattle.rules.specs.Made.{made_record}
use Rattle.image_make.proofs.Laws.{record_behind, record_lent, part_filled}
use Rattle.image_make.proofs.put_records.Goals as goal

pub loop-i-preserved : goal.loop-i-preserved
loop-i-preserved c = let a = c.args in
    let i = c.loop-i.i in
    let filled = part_filled i a.payload.now (omega arith) in (
      search rules,
      record_lent i (a.first + i) a.n a.version c.loop-i.output _ _ (omega arith) (search rules) c.put_record.ensures
          ∙ ap (λ (part : List ℕ). splice (i * 128) (made_record (a.first + i) a.n a.version part) c.loop-i.output) filled
          ∙ record_behind i a.first a.n a.version a.payload.now a.output.now c.loop-i.invariant.1,
    )
