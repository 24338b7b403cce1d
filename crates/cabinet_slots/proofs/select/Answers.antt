-- `cabinet_slots::select` meets its contract. The first byte alone is written.
-- Assumes nothing.
use mathlib.Core.{Path.ap, Bool.not}
use borrow.Author.Rules.{rules}
use Rattle.rules.specs.Tests.{◌≤?◌}
use Rattle.cabinet_slots.proofs.Tested.{slots_fine, selected}
use Rattle.cabinet_slots.proofs.select.Goals as goal

pub bounds-slots-0 : goal.bounds-slots-0
bounds-slots-0 c =
    let f = slots_fine c.args.slots.now (c.args.slot ≤? 1) c.are_slots.ensures (ap not c.if-not-selectable.false) in
    search rules

pub returns-clause-slots_after : goal.returns-clause-slots_after
returns-clause-slots_after c = (selected c.args.slots.now c.args.slot c.are_slots.ensures (ap not c.if-not-selectable.false)).1
