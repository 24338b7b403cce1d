-- T-08 written out follows from its theorem; its examples, by computation over the definitions.
-- Assumes nothing.
use Prim.Native.Nat.{ℕ, ◌+◌}
use mathlib.Core.{Path.{◌≡◌, refl, sym, ◌∙◌, ap, subst}, Bool.{Bool, true, false, true≢false}, List.{List, [], ◌∷◌, ◌++◌}}
use lib.ListN.{length, drop}
use borrow.Author.Tests.{le-ltb, eq-eqb}
use Rattle.rules.specs.{Bytes.zeros?, Record.{possible, possible_transfer, possible_security, possible_thresholds, possible_reading, possible_parts, possible_trips, possible_cabinet, Whole, device_of, standing}}
use Rattle.rules.specs.{Refusals.{verdict, refused?}, Table.{row_of, fits?}, Health.{above, trips}, Module.{Call, OnHealth, accepted_answer}}
use Rattle.rules.specs.{Cabinet.{outcome, Event, step, call_checks, call_result, tick_result, power_result, reading_result}, TripsKept.{after, answer_before, RequestT08}}
use Rattle.rules.specs.declared.{Refusal.TheVariants.{R, Status}}
use Rattle.rules.proofs.page.Past.{named_possible}
use Rattle.rules_demands.specs.Trips.{left, both_fresh, AllR3, TripsWrittenOut, TripsHeld}
use Rattle.rules.specs.Refusals.{Verdict}
use Rattle.std.specs.Prelude.{Ok, Err}

-- a cabinet of which a module has another byte is not possible
not_possible : RequestT08 → (w : Whole) (named : ℕ)
    → ((device_of named w.cabinet).trips ≡ trips (device_of named w.cabinet).thresholds (device_of named w.cabinet).reading → ⊥) → possible_cabinet w.cabinet ≡ false
not_possible demand w named wrong = go (possible_cabinet w.cabinet) refl
  where
    go : (b : Bool) → possible_cabinet w.cabinet ≡ b → b ≡ false
    go true e = absurd (wrong ((demand.asked_besides w.cabinet.contexts (device_of named w.cabinet)).0 (named_possible named w.cabinet e)).1)
    go false e = refl

all_R3 : (w : Whole) → length w.area ≡ 16384 → possible_cabinet w.cabinet ≡ false → AllR3 w
unfolding call_result tick_result power_result reading_result verdict
all_R3 w l p =
    let size = eq-eqb (length w.area) 16384 l in
    record {
      to_calls = λ host named revision index request buffer few room.
          let big = le-ltb (length buffer) 132 room in
          let there = le-ltb 1 named few in (simp (big, size, there, p), simp (big, size, there, p));
      to_ticks = (simp (size, p), simp (size, p));
      to_power = λ named few. let there = le-ltb 1 named few in (simp (size, there, p), simp (size, there, p));
      to_readings = λ named new few. let there = le-ltb 1 named few in (simp (size, there, p), simp (size, there, p));
    }

same_left : (events : List Event) (w : Whole) → left w events ≡ after events w
same_left [] w = refl
same_left (event ∷ events) w = same_left events (step w event).after

-- an accepted call's answer
written : (v : Verdict) (w : Whole) (named : ℕ) (asked : Call) (n : ℕ) (buffer : List ℕ) → (outcome v w named asked n buffer).reply.verdict ≡ Ok tt
    → (outcome v w named asked n buffer).answer ≡ accepted_answer (standing named w) asked ++ drop (0 + length (accepted_answer (standing named w) asked)) buffer
written (Ok tt) w named asked n buffer e = refl
written (Err (R number)) w named asked n buffer e = absurd (true≢false (ap refused? e))
written (Err (Status status ext)) w named asked n buffer e = absurd (true≢false (ap refused? e))

pub written_out : RequestT08 → TripsWrittenOut
unfolding row_of call_result
written_out demand =
    record {
      possible_only = λ given d p. (demand.asked_besides given d).0 p;
      possible_where = λ given d parts byte. (demand.asked_besides given d).1 (parts, byte);
      wrong_byte = λ w named l wrong. all_R3 w l (not_possible demand w named wrong);
      true_after_in_0 = λ w event p l. (demand.kept_true w event p l).0;
      true_after_in_1 = λ w event p l. (demand.kept_true w event p l).1;
      answered = λ w host named revision request buffer p e.
          written (verdict (call_checks w named revision 1 request buffer)) w named OnHealth 132 buffer e
          ∙ ap (λ (bytes : List ℕ). bytes ++ drop 132 buffer) (demand.same_answers (standing named w) OnHealth (named_possible named w.cabinet p));
      polled = λ area l events host named revision request buffer e.
          let w = left (both_fresh area) events in
          written (verdict (call_checks w named revision 1 request buffer)) w named OnHealth 132 buffer e
          ∙ ap (λ (bytes : List ℕ). bytes ++ drop 132 buffer)
          (subst (λ (u : Whole). accepted_answer (standing named u) OnHealth ≡ answer_before (standing named u) OnHealth) (sym (same_left events (both_fresh area)))
          (demand.same_from_fresh area l events named OnHealth));
    }

pub trips_held : TripsHeld
unfolding zeros? possible possible_transfer possible_security possible_thresholds possible_reading possible_parts possible_trips possible_cabinet verdict row_of fits? call_result tick_result power_result reading_result above trips
trips_held = record { none_yet = refl; by_sets = refl; by_readings = refl; off_again = refl; left_alone = refl; not_by_the_other = refl }
