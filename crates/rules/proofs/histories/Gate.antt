-- R numbers are an outer gate: what remains from a sound cabinet plays alike with and without them, seen from either module.
-- Assumes nothing.
use mathlib.Core.{Path.{◌≡◌, refl, sym, ◌∙◌, ap, subst}, Bool.{Bool, true, false, ◌||◌, false≢true}, List.{[], ◌∷◌}}
use lib.ListN.{length}
use borrow.Author.Tests.{eq-eqb}
use Rattle.rules.specs.{Numbers.area_size, Record.Whole, History.{Plays, end, All, Same, after_exchange}, Transfers.{Answer, machine, Exchange, History}, Demand3.{remains, Sound}}
use Rattle.rules.specs.Demand1.{buffer_too_short, module_over1}
use Rattle.rules.proofs.{page.Split.{Seen, seen_from, act, inner, TransferPart, part_of}, page.Through.{Through, stopped, shut, over}, page.Facts.Kept}
use Rattle.rules.proofs.{page.Keeps.apart, page.Possible.{Fine, fine_act, sound_through, sound_next}, page.Choice.or_false, histories.Joining.kept_along, page.Invariant.{Invariant, keeps_next}}

-- the exchange remains; nothing stopped it before the record was looked at
abbrev pub Remains : Exchange → Type 0
Remains x = Kept x.got

abbrev pub Unstopped : Exchange → Type 0
Unstopped x = stopped x.event ≡ false

pub unstopped : (w : Whole) (x : Exchange) → Sound w → machine.answer w x.event ≡ x.got → Remains x → Unstopped x
unstopped w x s p k = go (buffer_too_short x.event) refl (module_over1 x.event) refl
  where
    kept : remains (machine.answer w x.event).reply.verdict ≡ true
    kept = ap (λ (got : Answer). remains got.reply.verdict) p ∙ k

    go : (a : Bool) → buffer_too_short x.event ≡ a → (b : Bool) → module_over1 x.event ≡ b → stopped x.event ≡ false
    go true e b f = absurd (false≢true (ap remains (sym (shut w x.event e).is_R) ∙ kept))
    go false e true f = absurd (false≢true (ap remains (sym (over w x.event e f (eq-eqb (length w.area) area_size s.area_size_law)).is_R) ∙ kept))
    go false e false f = ap (λ (c : Bool). c || module_over1 x.event) e ∙ f

-- it names a module that there is
pub module_there : (x : Exchange) → Unstopped x → module_over1 x.event ≡ false
module_there x u = (or_false (buffer_too_short x.event) (module_over1 x.event) u).1

pub record Inward (first : Bool) (w : Whole) (h : History) : Type 0 where
  pub plays : Plays (inner first) (seen_from first w) h
  pub ends : end (inner first) (seen_from first w) h ≡ seen_from first (end machine w h)
  pub all_unstopped : All Unstopped h

pub inwards : (first : Bool) (w : Whole) (h : History) → Sound w → Plays machine w h → All Remains h → Inward first w h
inwards first w [] s p k = record { plays = tt; ends = refl; all_unstopped = tt }
inwards first w (x ∷ h) s p k =
    let r : stopped x.event ≡ false = unstopped w x s p.0 k.0 in
    let t : Through first w x.event = sound_through first w x.event s r in
    let i : Inward first (machine.next w x.event) h = inwards first (machine.next w x.event) h (sound_next w x.event s) p.1 k.1 in
    record {
      plays = (sym t.answers_as ∙ p.0, subst (λ (u : Seen). Plays (inner first) u h) t.nexts_as i.plays);
      ends = ap (λ (u : Seen). end (inner first) u h) (sym t.nexts_as) ∙ i.ends;
      all_unstopped = (r, i.all_unstopped);
    }

pub record Outward (first : Bool) (w : Whole) (h : History) : Type 0 where
  pub plays : Plays machine w h
  pub ends : seen_from first (end machine w h) ≡ end (inner first) (seen_from first w) h

pub outwards : (first : Bool) (w : Whole) (h : History) → Sound w → Plays (inner first) (seen_from first w) h → All Unstopped h → Outward first w h
outwards first w [] s p r = record { plays = tt; ends = refl }
outwards first w (x ∷ h) s p r =
    let t : Through first w x.event = sound_through first w x.event s r.0 in
    let i : Outward first (machine.next w x.event) h =
    outwards first (machine.next w x.event) h (sound_next w x.event s) (subst (λ (u : Seen). Plays (inner first) u h) (sym t.nexts_as) p.1) r.1 in
    record { plays = (t.answers_as ∙ p.0, i.plays); ends = i.ends ∙ ap (λ (u : Seen). end (inner first) u h) t.nexts_as }

-- what is kept by every event holds at the end
pub keeps_end : {P : TransferPart → Type 0} → Invariant P → (first : Bool) (s : Seen) (h : History) → Fine s → P (part_of s) → P (part_of (end (inner first) s h))
keeps_end {P} i first s h w p =
    (kept_along (after_exchange (inner first)) (λ (u : Seen). Fine u × P (part_of u))
    (λ u x q. (fine_act u (act first x.event) q.0, keeps_next {P = P} i u (apart u q.0.ok) (act first x.event) q.1)) s h (w, p)).1

pub sound_end : (w : Whole) (h : History) → Sound w → Sound (end machine w h)
sound_end w h s = kept_along (after_exchange machine) Sound (λ u x q. sound_next u x.event q) w h s

pub fine_end : (first : Bool) (s : Seen) (h : History) → Fine s → Fine (end (inner first) s h)
fine_end first s h w = kept_along (after_exchange (inner first)) Fine (λ u x q. fine_act u (act first x.event) q) s h w

-- what is seen from a module is all there is
whole_from : (first : Bool) → Seen → Whole
whole_from true s = record { cabinet = record { contexts = s.given; first = s.own; second = s.other }; area = s.area }
whole_from false s = record { cabinet = record { contexts = s.given; first = s.other; second = s.own }; area = s.area }

back : (first : Bool) (w : Whole) → whole_from first (seen_from first w) ≡ w
unfolding whole_from
back true w = refl
back false w = refl

pub seen_all : (first : Bool) (u v : Whole) → seen_from first u ≡ seen_from first v → u ≡ v
seen_all first u v e = sym (back first u) ∙ ap (whole_from first) e ∙ back first v

-- what is the same without the R numbers is the same with them
pub same_outward : (first : Bool) (w : Whole) (h k : History) → Sound w → Plays machine w h → All Remains h → All Unstopped k → Same (inner first) (seen_from first w) h k
    → Same machine w h k
same_outward first w h k s p l r i =
    let into : Inward first w h = inwards first w h s p l in
    let out : Outward first w k = outwards first w k s i.plays r in
    record { plays = out.plays; ends = seen_all first (end machine w k) (end machine w h) (out.ends ∙ i.ends ∙ into.ends) }
