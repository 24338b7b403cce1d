-- One image waits at a time, in both modules together: while one is verified no Start is accepted.
-- Assumes nothing.
use Prim.Native.Nat.{ℕ, ◌≤◌}
use mathlib.Core.{Path.{◌≡◌, refl, sym, ◌∙◌, ap, subst}, Logic.{◌⊎◌, inl, inr}, Bool.{Bool, true, false}, List.{[], ◌∷◌, ◌++◌}}
use native.Mathlib.Omega.{arith}
use borrow.Author.Tests.{leb-true, leb-false}
use Rattle.rules.specs.{Tests.{◌≤?◌, ◌=?◌}, Numbers.verification, Record.{◌is◌, Whole}, Transfer.Finish, History.{Plays, end, All}}
use Rattle.rules.specs.{Transfers.{machine, History, Finished}, Sends.{ticks_in, power_cycles}, Demand3.{Sound, OneWaits}, declared.Phase.Phase}
use Rattle.rules.specs.declared.{Phase.TheVariants.{Receiving, Verifying}}
use Rattle.rules.proofs.{histories.Joining.{plays_right, all_left, all_right}, page.Split.{seen_from, number, taken, TransferPart, part_of, part_change}, page.Through.side_named}
use Rattle.rules.proofs.{page.Choice.or_false, page.Facts.{never, StartOk}, page.Possible.sound_next, histories.KindOf.finished_named, histories.Gate.{Remains, Unstopped, module_there, inwards, sound_end}}
use Rattle.rules.proofs.{histories.Order.{started_at}, histories.Due.{Held, held, after_finish}}

-- a Start of either module finds neither verifying
not_verifying : (z first : Bool) (w : Whole) → StartOk (seen_from z w).own.transfer w.cabinet.contexts (taken (seen_from z w)) → ((seen_from first w).own.transfer.phase is Verifying) ≡ false
not_verifying true true w o = o.not_verifying
not_verifying true false w o = (or_false (w.cabinet.second.transfer.phase is Receiving) (w.cabinet.second.transfer.phase is Verifying) o.free).1
not_verifying false true w o = (or_false (w.cabinet.first.transfer.phase is Receiving) (w.cabinet.first.transfer.phase is Verifying) o.free).1
not_verifying false false w o = o.not_verifying

pub one_waits : (w : Whole) (h : History) → Sound w → Plays machine w h → All Remains h → OneWaits h
one_waits w h s p k before between since x y named another host other finished started e fx sy = go (verification ≤? ticks_in between) refl (1 ≤? power_cycles named between) refl
  where
    first : Bool
    first = named =? 0

    wx : Whole
    wx = end machine w before

    wy : Whole
    wy = machine.next wx x.event

    wz : Whole
    wz = end machine wy between

    tail : History
    tail = y ∷ since

    sx : Sound wx
    sx = sound_end w before s

    sound_y : Sound wy
    sound_y = sound_next wx x.event sx

    px : Plays machine wx (x ∷ between ++ tail)
    px = plays_right machine w before (x ∷ between ++ tail) (subst (λ (l : History). Plays machine w l) e p)

    kx : All Remains (x ∷ between ++ tail)
    kx = all_right Remains before (x ∷ between ++ tail) (subst (All Remains) e k)

    ux : All Unstopped (x ∷ between ++ tail)
    ux = (inwards true wx (x ∷ between ++ tail) sx px kx).all_unstopped

    module_is : number first ≡ named
    module_is = side_named named (finished_named x named host finished 0 fx (module_there x ux.0))

    left : part_of (seen_from first wy) ≡ part_change (part_of (seen_from first wx)) (Finish 0 [] finished)
    left = after_finish first wx x host finished sx ux.0 (fx ∙ ap (λ (n : ℕ). Finished n host finished 0) (sym module_is)) px.0

    go : (a : Bool) → (verification ≤? ticks_in between) ≡ a → (b : Bool) → (1 ≤? power_cycles named between) ≡ b → (verification ≤ ticks_in between) ⊎ (1 ≤ power_cycles named between)
    go true f b g = inl (leb-true verification (ticks_in between) f)
    go false f true g = inr (leb-true 1 (power_cycles named between) g)
    go false f false g =
        let few = leb-false verification (ticks_in between) f in
        let none = leb-false 1 (power_cycles named between) g in
        let eight = ap (λ (z : TransferPart). z.transfer.ticks) left in
        let still : Held (part_of (seen_from first wy)) (part_of (seen_from first wz)) (ticks_in between) =
        held first wy between sound_y (all_left Unstopped between tail ux.1) (ap (λ (z : TransferPart). z.transfer.phase) left)
        (ap (λ (n : ℕ). power_cycles n between) module_is ∙ omega (arith, none)) (omega (arith, few, eight)) in
        let pz = plays_right machine wy between tail px.1 in
        let kz = all_right Remains between tail kx.1 in
        let b = started_at wz y another other started (sound_end wy between sound_y) sy pz.0 kz.0 in
        never (sym (ap (λ (z : Phase). z is Verifying) still.at) ∙ not_verifying (another =? 0) first wz b.allowed)
