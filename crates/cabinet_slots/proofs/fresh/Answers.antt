-- `cabinet_slots::fresh` meets its contract. The record's part comes back with the fresh record in it; behind it zeros, before it the selector.
-- Assumes nothing.
use mathlib.Core.{Path.{◌∙◌, ap}}
use Rattle.cabinet_bytes.specs.Encoding.{encode_cabinet}
use Rattle.cabinet_slots.proofs.Tested.{made, fresh_whole}
use Rattle.cabinet_slots.proofs.fresh.Goals as goal

pub returns-clause-slots_after : goal.returns-clause-slots_after
returns-clause-slots_after c =
    let s = c.args.slots.now in
    let h = c.if-slots-ne577.false in
    (fresh_whole s h (made s h (c.put.ensures ∙ ap encode_cabinet c.fresh.ensures) c.put_zeros.ensures)).1
