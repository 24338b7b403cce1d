-- `cabinet_slots::are_slots` meets its contract. The length is tested first, then the selector.
-- Assumes nothing.
use mathlib.Core.{Path.{sym, ap}, Bool.{Bool, ◌&&◌}}
use lib.ListN.{length}
use Rattle.rules.specs.Tests.{◌≤?◌}
use Rattle.cabinet_slots.specs.Slots.{selector, slots?}
use borrow.Author.Tests.{eq-eqb, ne_eqb}
use Rattle.cabinet_slots.proofs.are_slots.Goals as goal

pub returns-then-slots-ne577 : goal.returns-then-slots-ne577
unfolding slots?
returns-then-slots-ne577 c =
    let s = c.args.slots.now in
    ap (λ (t : Bool). t && selector s ≤? 1) (sym (ne_eqb (length s) 577 c.if-slots-ne577.true))

pub returns : goal.returns
unfolding slots?
returns c =
    let s = c.args.slots.now in
    ap (λ (t : Bool). t && selector s ≤? 1) (sym (eq-eqb (length s) 577 c.if-slots-ne577.false))
