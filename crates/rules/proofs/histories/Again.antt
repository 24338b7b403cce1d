-- Numbers are never given again, by whichever module: no event lowers the contexts given out, and an accepted Start answers the next number.
-- Assumes nothing.
use Prim.Native.Nat.{ℕ, ◌≤◌}
use mathlib.Core.{Path.{◌≡◌, refl, sym, subst}, List.{◌∷◌, ◌++◌}, Bool.{Bool, true, false}}
use native.Mathlib.Omega.{arith}
use Rattle.rules.specs.{Record.Whole, History.{Plays, end, All, after_exchange}, Cabinet.Event}
use Rattle.rules.specs.{Transfers.{machine, History}, Demand3.{Sound, NeverAgain}}
use Rattle.rules.proofs.{histories.Joining.{plays_right, all_right, kept_along}, page.Split.{Seen, seen_from, act}, page.Through.stopped, page.Keeps.more_next}
use Rattle.rules.proofs.{page.Possible.{sound_next, sound_through, stopped_same}, histories.Gate.{Remains, sound_end}, histories.Order.{started_at}}

-- no event takes a number back
more_step : (w : Whole) (event : Event) → Sound w → w.cabinet.contexts ≤ (machine.next w event).cabinet.contexts
more_step w event s = go (stopped event) refl
  where
    go : (b : Bool) → stopped event ≡ b → w.cabinet.contexts ≤ (machine.next w event).cabinet.contexts
    go true e = subst (λ (u : Whole). w.cabinet.contexts ≤ u.cabinet.contexts) (sym (stopped_same w event s.area_size_law e)) (omega arith)
    go false e =
        subst (λ (u : Seen). w.cabinet.contexts ≤ u.given) (sym (sound_through true w event s e).nexts_as) (more_next (seen_from true w) (act true event))

at_least : (c : ℕ) (w : Whole) (h : History) → Sound w → c ≤ w.cabinet.contexts → c ≤ (end machine w h).cabinet.contexts
at_least c w h s l =
    (kept_along (after_exchange machine) (λ (u : Whole). Sound u × (c ≤ u.cabinet.contexts))
    (λ u x q. (sound_next u x.event q.0, omega (arith, q.1, more_step u x.event q.0))) w h (s, l)).1

pub never_again : (w : Whole) (h : History) → Sound w → Plays machine w h → All Remains h → NeverAgain h
never_again w h s p k before between since x y named another host other first second e sx sy =
    let wx : Whole = end machine w before in
    let wy : Whole = machine.next wx x.event in
    let wz : Whole = end machine wy between in
    let tail : History = y ∷ since in
    let ox : Sound wx = sound_end w before s in
    let oy : Sound wy = sound_next wx x.event ox in
    let px = plays_right machine w before (x ∷ between ++ tail) (subst (λ (l : History). Plays machine w l) e p) in
    let kx = all_right Remains before (x ∷ between ++ tail) (subst (All Remains) e k) in
    let pz = plays_right machine wy between tail px.1 in
    let kz = all_right Remains between tail kx.1 in
    let a = started_at wx x named host first ox sx px.0 kx.0 in
    let b = started_at wz y another other second (sound_end wy between oy) sy pz.0 kz.0 in
    let kept : first ≤ wz.cabinet.contexts = at_least first wy between oy (omega (arith, a.out)) in
    omega (arith, b.next_number, kept)
