-- T-09 written out follows from its theorem; its examples, by computation over the definitions.
-- Assumes nothing.
use Prim.Native.Nat.{ℕ, ◌≤◌}
use native.Mathlib.Omega.{arith}
use mathlib.Core.{Path.{◌≡◌, refl, sym, ◌∙◌, ap, fun_ext}, Logic.{◌⊎◌, inl, inr}, Bool.{Bool, true, false}, List.{List, [], ◌∷◌, map}}
use lib.ListN.{length}
use borrow.Author.Tests.{ne_eqb}
use Rattle.std.specs.Prelude.{if◌then◌else◌}
use Rattle.rules.specs.{Bytes.zeros?, Record.{possible, possible_transfer, possible_security, possible_thresholds, possible_reading, possible_parts, possible_trips, possible_cabinet, Whole}}
use Rattle.rules.specs.{Refusals.verdict, Table.{row_of, fits?}, Health.{above, trips}, Cabinet.{Event, call, tick, power, reading, call_result, tick_result, power_result, reading_result}, Log.entry_of}
use Rattle.rules.specs.{History.{keep, only, history_of}, Transfers.{machine, Exchange, History}, Apart.{reaches, start_of, reached_by, starts_of, events_in, RequestT09}, Demand1.Among}
use Rattle.rules.specs.declared.{Refusal.Refusal, Refusal.TheVariants.R}
use Rattle.rules_demands.specs.Modules.{OtherWrittenOut, is_for, is_start_for, meant, Heard, heard, begun, ModulesWrittenOut, StartsNeeded, ModulesHeld}

other_written : RequestT09 → (w : Whole) → OtherWrittenOut w
other_written demand w =
    record {
      calls_leave_0 = λ host named revision index request buffer n. demand.other_left 0 (omega arith) w (call host named revision index request buffer) (ne_eqb named 0 n);
      calls_leave_1 = λ host named revision index request buffer n. demand.other_left 1 (omega arith) w (call host named revision index request buffer) (ne_eqb named 1 n);
      power_leaves_0 = λ named n. demand.other_left 0 (omega arith) w (power named) (ne_eqb named 0 n);
      power_leaves_1 = λ named n. demand.other_left 1 (omega arith) w (power named) (ne_eqb named 1 n);
      readings_leave_0 = λ named new n. demand.other_left 0 (omega arith) w (reading named new) (ne_eqb named 0 n);
      readings_leave_1 = λ named new n. demand.other_left 1 (omega arith) w (reading named new) (ne_eqb named 1 n);
    }

-- the two tests are rules' own
same_for : (own : ℕ) (event : Event) → reaches own event ≡ is_for own event
same_for own (call host named revision index request buffer) = refl
same_for own tick = refl
same_for own (power named) = refl
same_for own (reading named new) = refl

same_start : (own : ℕ) (event : Event) → start_of own event ≡ is_start_for own event
same_start own (call host named revision index request buffer) = refl
same_start own tick = refl
same_start own (power named) = refl
same_start own (reading named new) = refl

-- an exchange, as it is heard; and as rules has it
as_heard : Exchange → Heard
as_heard x = record { event = x.event; reply = x.got.reply; buffer = x.got.buffer }

as_exchange : Heard → Exchange
as_exchange x = record { event = x.event; got = record { reply = x.reply; buffer = x.buffer } }

there_and_back : (h : History) → map as_exchange (map as_heard h) ≡ h
unfolding as_heard as_exchange
there_and_back [] = refl
there_and_back (x ∷ h) = ap (λ (k : History). x ∷ k) (there_and_back h)

kept : (b : Bool) (x : Exchange) (h : History) → map as_heard (keep b x h) ≡ (if b then as_heard x ∷ map as_heard h else map as_heard h)
kept true x h = refl
kept false x h = refl

-- what a run answers to the events that pass a test, heard
heard_run : (test : Event → Bool) (w : Whole) (events : List Event) → map as_heard (only (λ x. test x.event) (history_of machine w events)) ≡ heard test w events
unfolding as_heard
heard_run test w [] = refl
heard_run test w (event ∷ events) =
    let x : Exchange = record { event = event; got = machine.answer w event } in
    kept (test event) x (only (λ x. test x.event) (history_of machine (machine.next w event) events))
    ∙ ap (λ (k : List Heard). if test event then as_heard x ∷ k else k) (heard_run test (machine.next w event) events)

module _ (own : ℕ) where
  reached_run : (w : Whole) (events : List Event) → map as_heard (reached_by own (history_of machine w events)) ≡ heard (is_for own) w events
  reached_run w events = heard_run (reaches own) w events ∙ ap (λ (test : Event → Bool). heard test w events) (fun_ext (same_for own))

  starts_run : (w : Whole) (events : List Event) → map as_heard (starts_of own (history_of machine w events)) ≡ heard (is_start_for own) w events
  starts_run w events = heard_run (start_of own) w events ∙ ap (λ (test : Event → Bool). heard test w events) (fun_ext (same_start own))

  -- the events that reach the module in a run are those that are for it
  meant_run : (w : Whole) (events : List Event) → events_in (reached_by own (history_of machine w events)) ≡ meant own events
  meant_run w [] = refl
  meant_run w (event ∷ events) = go (reaches own event) (is_for own event) (same_for own event) (meant_run (machine.next w event) events)
    where
      x : Exchange
      x = record { event = event; got = machine.answer w event }

      later : History
      later = reached_by own (history_of machine (machine.next w event) events)

      go : (a b : Bool) → a ≡ b → events_in later ≡ meant own events → events_in (keep a x later) ≡ (if b then event ∷ meant own events else meant own events)
      go true b e i = ap (λ (es : List Event). event ∷ es) i ∙ ap (λ (c : Bool). if c then event ∷ meant own events else meant own events) e
      go false b e i = i ∙ ap (λ (c : Bool). if c then event ∷ meant own events else meant own events) e

unseen_written : RequestT09 → (own : ℕ) → own ≤ 1 → (area another : List ℕ) → length area ≡ 16384 → length another ≡ 16384 → (events others : List Event)
    → meant own events ≡ meant own others
    → heard (is_start_for own) (begun area) events ≡ heard (is_start_for own) (begun another) others
    → heard (is_for own) (begun area) events ≡ heard (is_for own) (begun another) others
unseen_written demand own l area another long wide events others p q =
    sym (reached_run own (begun area) events)
    ∙ ap (map as_heard) (demand.unseen own l area another long wide events others (meant_run own (begun area) events ∙ p ∙ sym (meant_run own (begun another) others)) starts)
    ∙ reached_run own (begun another) others
  where
    starts : starts_of own (history_of machine (begun area) events) ≡ starts_of own (history_of machine (begun another) others)
    starts =
        sym (there_and_back (starts_of own (history_of machine (begun area) events)))
        ∙ ap (map as_exchange) (starts_run own (begun area) events ∙ q ∙ sym (starts_run own (begun another) others))
        ∙ there_and_back (starts_of own (history_of machine (begun another) others))

-- of two numbers; of three
either : (refusal : Refusal) → Among (R 2 ∷ R 3 ∷ []) refusal → (refusal ≡ R 2) ⊎ (refusal ≡ R 3)
either refusal (inl e) = inl e
either refusal (inr (inl e)) = inr e
either refusal (inr (inr a)) = absurd a

one_of_three : (refusal : Refusal) → Among (R 2 ∷ R 5 ∷ R 3 ∷ []) refusal → (refusal ≡ R 2) ⊎ ((refusal ≡ R 5) ⊎ (refusal ≡ R 3))
one_of_three refusal (inl e) = inl e
one_of_three refusal (inr (inl e)) = inr (inl e)
one_of_three refusal (inr (inr (inl e))) = inr (inr e)
one_of_three refusal (inr (inr (inr a))) = absurd a

pub written_out : RequestT09 → ModulesWrittenOut
written_out demand =
    record {
      other_left = other_written demand;
      unseen = unseen_written demand;
      of_ticks = λ w refusal e. either refusal (demand.of_ticks w refusal e);
      of_power = λ w named refusal e. one_of_three refusal (demand.of_power w named refusal e);
    }

pub starts_needed : StartsNeeded
unfolding zeros? possible possible_transfer possible_security possible_thresholds possible_reading possible_parts possible_trips possible_cabinet verdict row_of fits? call_result above trips
starts_needed =
    record {
      meant_alike = refl;
      alone_answered = refl;
      beside_answered = refl;
      meant_alike_later = refl;
      statuses_alike = refl;
      first_context = refl;
      later_context = refl;
      first_answered = refl;
      later_answered = refl;
    }

pub modules_held : ModulesHeld
unfolding zeros? possible possible_transfer possible_security possible_thresholds possible_reading possible_parts possible_trips possible_cabinet verdict row_of fits? call_result tick_result power_result reading_result above trips entry_of
modules_held =
    record {
      at_most_one = refl;
      contexts_of_0 = refl;
      contexts_of_1 = refl;
      both_receiving = refl;
      over_1_first = refl;
      short_first = refl;
      over_1_of_good = refl;
      area_free = refl;
      area_taken = refl;
      all_given = refl;
      calls_name = refl;
      calls_bad = refl;
      ticks_name = refl;
      powers_name = refl;
      readings_name = refl;
    }
