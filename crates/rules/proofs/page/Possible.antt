-- A fresh cabinet is possible; every event takes a possible cabinet with an area of the right size to a possible one and keeps the area's size; and from such a cabinet
-- no R number is given but R1, for a short answer buffer, R5, for a module over 1, and R4, for a reading over 100.
-- Assumes nothing.
use Prim.Native.Nat.{ℕ, ◌≤◌}
use mathlib.Core.{Path.{◌≡◌, refl, sym, ap, ◌∙◌, subst}, Bool.{Bool, true, false, not, ◌&&◌, ◌||◌, false≢true}, Logic.{inl, inr}, List.List}
use native.Mathlib.Omega.{arith}
use lib.ListN.{length}
use borrow.Author.Tests.{eq-eqb, not-true}
use Rattle.rules.specs.{Tests.◌=?◌, Bytes.zeros?, Numbers.{area_size, last_context}, Record.{has_area, fresh_cabinet, possible, possible_transfer, possible_security, possible_thresholds, possible_reading, possible_parts, possible_trips, possible_cabinet, Whole}}
use Rattle.rules.specs.{Cabinet.{Event, call, tick, power, reading, step}, Transfers.machine, Demand3.{fresh_with, Sound}, declared.Refusal.TheVariants.R}
use Rattle.rules.specs.{Demand1.{buffer_too_short, module_over1, spare_over100, MayGive}, Health.{above, trips}, declared.Cabinet.Cabinet}
use Rattle.rules.proofs.{page.Split.{Seen, seen_from, Act, act, nexts}, page.Through.{no_R, Through, through, stopped, gate_no_R, reading_verdict, shut, over}}
use Rattle.rules.proofs.{page.Keeps.{SeenOk, turn_ok, ok_next, fit_next, ok_possible, possible_ok}, page.Choice.{and_3}}
use Rattle.std.specs.Prelude.{Err}

-- "Fresh" is possible.
pub possible_fresh : possible_cabinet fresh_cabinet ≡ true
unfolding possible possible_transfer possible_security possible_thresholds possible_reading possible_parts possible_trips possible_cabinet zeros? above trips
possible_fresh = refl

-- a possible cabinet, seen from either module, is as it should be; and the other way
ok_cabinet : (w : Whole) → possible_cabinet w.cabinet ≡ true → length w.area ≡ area_size → SeenOk (seen_from true w)
unfolding possible_cabinet
ok_cabinet w e l =
    let c : Cabinet = w.cabinet in
    let q = and_3 (possible c.contexts c.first) (possible c.contexts c.second) (not (has_area c.first.transfer && has_area c.second.transfer)) e in
    let first = possible_ok (seen_from true w) q.0 l in
    let second = possible_ok (seen_from false w) q.1 l in
    record { part = first.0; rests = first.1; other_part = second.0; other_rests = second.1; one = not-true _ q.2 }

pub to_ok : (first : Bool) (w : Whole) → possible_cabinet w.cabinet ≡ true → length w.area ≡ area_size → SeenOk (seen_from first w)
to_ok true w e l = ok_cabinet w e l
to_ok false w e l = turn_ok (seen_from true w) (ok_cabinet w e l)

possible_first : (w : Whole) → SeenOk (seen_from true w) → possible_cabinet w.cabinet ≡ true
unfolding possible_cabinet
possible_first w o =
    rw (
      ok_possible (seen_from true w) o.part o.rests,
      ok_possible (seen_from false w) o.other_part o.other_rests,
      o.one,
    )

pub from_ok : (first : Bool) (w : Whole) → SeenOk (seen_from first w) → possible_cabinet w.cabinet ≡ true
from_ok true w o = possible_first w o
from_ok false w o = possible_first w (turn_ok (seen_from false w) o)

-- the two together, with the width of contexts
pub record Fine (s : Seen) : Type 0 where
  pub ok : SeenOk s
  pub fit : s.given ≤ last_context

pub sound_fine : (first : Bool) (w : Whole) → Sound w → Fine (seen_from first w)
sound_fine first w s = record { ok = to_ok first w s.record_possible s.area_size_law; fit = s.contexts_fit }

pub fine_sound : (first : Bool) (w : Whole) → Fine (seen_from first w) → Sound w
fine_sound first w s = record { record_possible = from_ok first w s.ok; contexts_fit = s.fit; area_size_law = s.ok.part.size }

pub fine_act : (s : Seen) (f : Act) → Fine s → Fine (nexts s f)
fine_act s f w = record { ok = ok_next s f w.ok; fit = fit_next s f w.fit }

-- what stops an event leaves all
pub stopped_same : (w : Whole) (event : Event) → length w.area ≡ area_size → stopped event ≡ true → machine.next w event ≡ w
stopped_same w event size e = go (buffer_too_short event) refl (module_over1 event) refl
  where
    go : (a : Bool) → buffer_too_short event ≡ a → (b : Bool) → module_over1 event ≡ b → machine.next w event ≡ w
    go true f b g = (shut w event f).same
    go false f true g = (over w event f g (eq-eqb (length w.area) area_size size)).same
    go false f false g = absurd (false≢true (sym (ap (λ (c : Bool). c || module_over1 event) f ∙ g) ∙ e))

-- past what stops an event, a sound cabinet is its modules
pub sound_through : (first : Bool) (w : Whole) (event : Event) → Sound w → stopped event ≡ false → Through first w event
sound_through first w event s e = through first w event e (eq-eqb (length w.area) area_size s.area_size_law) s.record_possible

ok_step : (w : Whole) (event : Event) → possible_cabinet w.cabinet ≡ true → length w.area ≡ area_size → SeenOk (seen_from true (machine.next w event))
ok_step w event p l = go (stopped event) refl
  where
    go : (b : Bool) → stopped event ≡ b → SeenOk (seen_from true (machine.next w event))
    go true e = subst (λ (u : Whole). SeenOk (seen_from true u)) (sym (stopped_same w event l e)) (to_ok true w p l)
    go false e =
        subst (λ (u : Seen). SeenOk u) (sym (through true w event e (eq-eqb (length w.area) area_size l) p).nexts_as) (ok_next (seen_from true w) (act true event) (to_ok true w p l))

-- Every event takes a possible cabinet to a possible one.
pub possible_next : (w : Whole) (event : Event) → possible_cabinet w.cabinet ≡ true → length w.area ≡ area_size → possible_cabinet (step w event).after.cabinet ≡ true
possible_next w event p l = from_ok true (machine.next w event) (ok_step w event p l)

-- Every event keeps the area's size.
pub area_next : (w : Whole) (event : Event) → possible_cabinet w.cabinet ≡ true → length w.area ≡ area_size → length (step w event).after.area ≡ area_size
area_next w event p l = (ok_step w event p l).part.size

-- a reading over 100 is refused by R4
over_R4 : (w : Whole) (event : Event) → possible_cabinet w.cabinet ≡ true → length w.area ≡ area_size → module_over1 event ≡ false → spare_over100 event ≡ true
    → (step w event).reply.verdict ≡ Err (R 4)
over_R4 w (call host named revision index request answer) p l o e = absurd (false≢true e)
over_R4 w tick p l o e = absurd (false≢true e)
over_R4 w (power named) p l o e = absurd (false≢true e)
over_R4 w (reading named new) p l o e = reading_verdict w named new true e o (eq-eqb (length w.area) area_size l) p

-- R2 and R3 are never given; R1 only to a call with a short answer buffer, R5 only to an event that names a module over 1, R4 only to a reading over 100.
pub no_other_R : (w : Whole) (event : Event) (number : ℕ) → possible_cabinet w.cabinet ≡ true → length w.area ≡ area_size
    → (step w event).reply.verdict ≡ Err (R number) → MayGive number event
no_other_R w event number p l r = go (buffer_too_short event) refl (module_over1 event) refl (spare_over100 event) refl
  where
    size : (length w.area =? area_size) ≡ true
    size = eq-eqb (length w.area) area_size l

    go : (a : Bool) → buffer_too_short event ≡ a → (b : Bool) → module_over1 event ≡ b → (c : Bool) → spare_over100 event ≡ c → MayGive number event
    go true e b f c g = let q = (shut w event e).is_R in inl (cc, e)
    go false e true f c g = let q = (over w event e f size).is_R in inr (inl (cc, f))
    go false e false f true g = let q = over_R4 w event p l f g in inr (inr (cc, g))
    go false e false f false g =
        let q = ap no_R (sym r) ∙ gate_no_R w event (ap (λ (z : Bool). z || module_over1 event) e ∙ f) g size p in
        let z : ◌≡◌ {A = ℕ} 0 1 = cc in absurd (omega arith)

pub sound_fresh : (area : List ℕ) → length area ≡ area_size → Sound (fresh_with area)
sound_fresh area l = record { record_possible = possible_fresh; contexts_fit = omega arith; area_size_law = l }

pub sound_next : (w : Whole) (event : Event) → Sound w → Sound (machine.next w event)
sound_next w event s = go (stopped event) refl
  where
    go : (b : Bool) → stopped event ≡ b → Sound (machine.next w event)
    go true e = subst (λ (u : Whole). Sound u) (sym (stopped_same w event s.area_size_law e)) s
    go false e =
        fine_sound true (machine.next w event)
        (subst (λ (u : Seen). Fine u) (sym (sound_through true w event s e).nexts_as) (fine_act (seen_from true w) (act true event) (sound_fine true w s)))
