-- `cabinet_slots::read` meets its contract. The test makes the selected slot one of the two, and its bytes go over the whole buffer.
-- Assumes nothing.
use mathlib.Core.{Path.ap, Bool.not}
use lib.ListN.{length}
use borrow.Author.Rules.{rules}
use Rattle.rules.specs.Tests.{◌=?◌}
use Rattle.cabinet_slots.proofs.Tested.{slots_fine, read_over}
use Rattle.cabinet_slots.proofs.read.Goals as goal

pub bounds-slots-0 : goal.bounds-slots-0
bounds-slots-0 c =
    let f = slots_fine c.args.slots.now (length c.args.buffer.now =? 288) c.are_slots.ensures (ap not c.if-not-readable.false) in
    search rules

pub slice_bounds-copy-end : goal.slice_bounds-copy-end
slice_bounds-copy-end c =
    let f = slots_fine c.args.slots.now (length c.args.buffer.now =? 288) c.are_slots.ensures (ap not c.if-not-readable.false) in
    search rules

pub returns-clause-buffer_after : goal.returns-clause-buffer_after
returns-clause-buffer_after c = (read_over c.args.slots.now c.args.buffer.now c.are_slots.ensures (ap not c.if-not-readable.false) c.copy.ensures).1
