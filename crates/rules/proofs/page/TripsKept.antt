-- Document 02, T-08: a possible record's byte is true, every event leaves it true in both modules, and function 1 answers what it computed before.
-- Assumes nothing.
use mathlib.Core.{Path.{◌≡◌, refl, ap}, Logic.◌↔◌, Bool.true, List.{List, [], ◌∷◌, ◌++◌}}
use Prim.Native.Nat.{ℕ}
use lib.ListN.{length}
use borrow.Author.Tests.{eqb-true, eq-eqb}
use Rattle.rules.specs.{Numbers.area_size, Record.{possible, possible_parts, possible_trips, possible_cabinet, Whole, Module, standing}, Refusals.status_bytes, Health.{trips, answer_with}}
use Rattle.rules.specs.{Module.{Call, OnMask, OnHealth, OnThresholds, OnTransfer, OnSecurity, OnNothing, accepted_answer}, Cabinet.{Event, step}, Demand3.fresh_with}
use Rattle.rules.specs.{TripsKept.{ByteTrue, after, answer_before, RequestT08}, declared.Device.Device}
use Rattle.rules.proofs.{page.Choice.and_true, page.Past.{both_possible, named_possible}, page.Possible.{possible_fresh, possible_next, area_next}}

asked_besides : (given : ℕ) (d : Device) → (possible given d ≡ true) ↔ ((possible_parts given d ≡ true) × ByteTrue d)
unfolding possible possible_trips
asked_besides given d = (
  λ e. let both = and_true (possible_parts given d) (possible_trips d) e in (both.0, eqb-true d.trips (trips d.thresholds d.reading) both.1),
  λ h. rw h.0 (eq-eqb d.trips (trips d.thresholds d.reading) h.1),
)

kept_true : (w : Whole) (event : Event) → possible_cabinet w.cabinet ≡ true → length w.area ≡ area_size
    → ByteTrue (step w event).after.cabinet.first × ByteTrue (step w event).after.cabinet.second
kept_true w event p l =
    let c = (step w event).after.cabinet in
    let q = both_possible c (possible_next w event p l) in
    (((asked_besides c.contexts c.first).0 q.0).1, ((asked_besides c.contexts c.second).0 q.1).1)

same_answers : (m : Module) (asked : Call) → possible m.given m.device ≡ true → accepted_answer m asked ≡ answer_before m asked
same_answers m (OnMask revision) p = refl
same_answers m OnHealth p = ap (λ (byte : ℕ). status_bytes 0 0 ++ answer_with byte m.device.reading) ((asked_besides m.given m.device).0 p).1
same_answers m (OnThresholds asked) p = refl
same_answers m (OnTransfer asked) p = refl
same_answers m (OnSecurity asked) p = refl
same_answers m OnNothing p = refl

-- events take a possible cabinet to a possible cabinet
possible_after : (events : List Event) (w : Whole) → possible_cabinet w.cabinet ≡ true → length w.area ≡ area_size → possible_cabinet (after events w).cabinet ≡ true
possible_after [] w p l = p
possible_after (event ∷ events) w p l = possible_after events (step w event).after (possible_next w event p l) (area_next w event p l)

pub request_T08 : RequestT08
request_T08 =
    record {
      asked_besides = asked_besides;
      kept_true = kept_true;
      same_answers = same_answers;
      same_from_fresh = λ area l events named asked.
          let w = after events (fresh_with area) in
          same_answers (standing named w) asked (named_possible named w.cabinet (possible_after events (fresh_with area) possible_fresh l));
    }
