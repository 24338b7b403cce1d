-- `cabinet_slots::write` meets its contract. The test makes the other slot one of the two, and the record's bytes go over it.
-- Assumes nothing.
use mathlib.Core.{Path.ap, Bool.not}
use native.Mathlib.Omega.{arith}
use lib.ListN.{length}
use borrow.{Author.Tests.eqb-true, Author.Rules.rules}
use Rattle.rules.specs.Tests.{◌=?◌}
use Rattle.cabinet_slots.proofs.Tested.{slots_fine, rest_true}
use Rattle.cabinet_slots.proofs.write.Goals as goal

pub bounds-slots-0 : goal.bounds-slots-0
bounds-slots-0 c =
    let f = slots_fine c.args.slots.now (length c.args.bytes.now =? 288) c.are_slots.ensures (ap not c.if-not-writable.false) in
    search rules

pub overflow_sub-other : goal.overflow_sub-other
overflow_sub-other c = (slots_fine c.args.slots.now (length c.args.bytes.now =? 288) c.are_slots.ensures (ap not c.if-not-writable.false)).low

pub copy_at-requires : goal.copy_at-requires
copy_at-requires c =
    let s = c.args.slots.now in
    let room = length c.args.bytes.now =? 288 in
    let f = slots_fine s room c.are_slots.ensures (ap not c.if-not-writable.false) in
    omega (arith, eqb-true (length c.args.bytes.now) 288 (rest_true s room c.are_slots.ensures (ap not c.if-not-writable.false)))
