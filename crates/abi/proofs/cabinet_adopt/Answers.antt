-- `abi::cabinet_adopt` meets its contract. The record that the old bytes say, and its two tests, decide (proofs/Adopted.antt).
-- Assumes nothing.
use mathlib.Core.{Path.ap, Bool.not}
use Rattle.abi.proofs.Adopted.{refused, whole, taken_over_law}
use Rattle.abi.proofs.cabinet_adopt.Goals as goal

pub returns-then-not-taken_over : goal.returns-then-not-taken_over
returns-then-not-taken_over c = let a = c.args in refused a.old.now a.bytes.now c.decode-d.ensures c.possible_alone.ensures c.kept_before.ensures (ap not c.if-not-taken_over.true)

pub put-requires : goal.put-requires
put-requires c = let a = c.args in whole a.old.now a.bytes.now c.decode-d.ensures c.possible_alone.ensures c.kept_before.ensures (ap not c.if-not-taken_over.false)

pub returns : goal.returns
returns c =
    let a = c.args in
    taken_over_law a.old.now a.bytes.now c.decode-d.ensures c.possible_alone.ensures c.kept_before.ensures (ap not c.if-not-taken_over.false) c.adopted.ensures c.put.ensures
