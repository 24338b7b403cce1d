-- What is written out beside the demands follows from rules' theorems.
-- Assumes nothing.
use Prim.Native.Nat.{ℕ, ◌≤◌}
use mathlib.Core.{Path.{◌≡◌, refl, ◌∙◌, ap}, Logic.{◌⊎◌, inl, inr}, Bool.{Bool, true, ◌&&◌, ◌||◌}, List.List}
use borrow.Author.Tests.{eq-eqb, ne_eqb}
use Rattle.std.specs.Prelude.{if◌then◌else◌}
use Rattle.rules.{specs.Tests.{◌=?◌}, specs.Record.{Whole, device_of, ◌is◌}, specs.Refusals.refused?, specs.Table.{table, row_of}}
use Rattle.rules.{specs.Security.{GetSecurityState, SetPassphrase, Disable, Unlock, Freeze}, specs.Module.{call_of, call_in}, specs.Cabinet.{call, tick, power, reading, step}}
use Rattle.rules.{specs.Transfers.{machine, Answer, Kind, call_kind, if_accepted}, specs.Beside.{NoSend, AreaStays, last_reading, LastKept, FrozenFirst, TakenOver}}
use Rattle.rules.{specs.declared.Phase.Phase, specs.declared.Phase.TheVariants.Staged, specs.declared.Row.Row, specs.declared.Security.Security, specs.declared.Refusal.Refusal}
use Rattle.rules.{specs.declared.Reading.Reading, proofs.page.Choice.{if_both, or_true}}
use Rattle.rules_demands.specs.Beside.{AreaWrittenOut, LastWrittenOut, FrozenWrittenOut, BesideWrittenOut}
use Rattle.rules_demands.proofs.Places.{looked_at}
use Rattle.rules.specs.Refusals.{Verdict}
use Rattle.std.specs.Prelude.{Ok, Err}

-- no Send: another function, or a refused call
module _ (named host revision : ℕ) (request : List ℕ) (got : Answer) where
  other_function : (index : ℕ) → (index ≡ 14 → ⊥) → NoSend (call_kind named host (call_in revision index request) got)
  unfolding row_of
  other_function index =
      looked_at (λ (i : ℕ) (r : Row). (i ≡ 14 → ⊥) → NoSend (call_kind named host (call_of r.function revision request) got)) index table
      (λ o. tt, (λ o. tt, (λ o. tt, (λ o. tt, (λ o. if_both NoSend (refused? got.reply.verdict) tt tt, (λ o. absurd (o refl), (λ o. if_both NoSend (refused? got.reply.verdict) tt tt, (λ o. tt, (λ o. tt, (λ o. tt, (λ o. tt, (λ o. tt, (λ o. tt, (λ o. tt, tt))))))))))))))
      (λ lacks o. tt)

  module _ (refusal : Refusal) (e : got.reply.verdict ≡ Err refusal) where
    none_accepted : (kind : Kind) → NoSend (if_accepted got kind)
    none_accepted kind = rw e tt

    refused_call : (index : ℕ) → NoSend (call_kind named host (call_in revision index request) got)
    unfolding row_of
    refused_call index =
        looked_at (λ (i : ℕ) (r : Row). NoSend (call_kind named host (call_of r.function revision request) got)) index table
        (tt, (tt, (tt, (tt, (none_accepted _, (none_accepted _, (none_accepted _, (tt, (tt, (tt, (tt, (tt, (tt, (tt, tt))))))))))))))
        (λ lacks. tt)

area_written : AreaStays → (w : Whole) → AreaWrittenOut w
area_written stays w =
    record {
      over_a_tick = stays w tick tt;
      over_a_power_cycle = λ named. stays w (power named) tt;
      over_a_reading = λ named new. stays w (reading named new) tt;
      over_other_functions = λ host named revision index request buffer other.
          let event = call host named revision index request buffer in
          stays w event (other_function named host revision request (machine.answer w event) index other);
      over_refusals = λ host named revision index request buffer refusal e.
          let event = call host named revision index request buffer in
          stays w event (refused_call named host revision request (machine.answer w event) refusal e index);
    }

first_true : (a b : Bool) → a ≡ true → (a || b) ≡ true
first_true a b e = ap (λ (t : Bool). t || b) e

frozen_written : FrozenFirst → (s : Security) → (s.frozen ≡ true) ⊎ (s.attempts ≡ 10) → FrozenWrittenOut s
frozen_written first s either =
    record {
      state_told = first s GetSecurityState (forbids either);
      set_10 = λ current new. first s (SetPassphrase current new) (forbids either);
      disable_10 = λ current. first s (Disable current) (forbids either);
      unlock_10 = λ current. first s (Unlock current) (forbids either);
      freeze_10 = first s Freeze (forbids either);
    }
  where
    forbids : (s.frozen ≡ true) ⊎ (s.attempts ≡ 10) → (s.frozen || s.attempts =? 10) ≡ true
    forbids (inl e) = first_true s.frozen (s.attempts =? 10) e
    forbids (inr e) = or_true s.frozen (s.attempts =? 10) (eq-eqb s.attempts 10 e)

-- a reading of the other module, whatever its verdict
other_reading : (own : ℕ) (w : Whole) (named : ℕ) (new : Reading) → (named ≡ own → ⊥) → (v : Verdict) → last_reading own w (reading named new) v ≡ (device_of own w.cabinet).reading
other_reading own w named new other (Ok tt) = ap (λ (b : Bool). if b then new else (device_of own w.cabinet).reading) (ne_eqb named own other)
other_reading own w named new other (Err refusal) = refl

last_written : LastKept → (own : ℕ) → own ≤ 1 → (w : Whole) → LastWrittenOut own w
last_written kept own l w =
    record {
      stays_over_a_tick = kept own l w tick;
      stays_over_power = λ named. kept own l w (power named);
      stays_over_a_call = λ host named revision index request buffer. kept own l w (call host named revision index request buffer);
      stays_where_refused = λ named new refusal e. kept own l w (reading named new) ∙ ap (last_reading own w (reading named new)) e;
      stays_over_the_other = λ named new other. kept own l w (reading named new) ∙ other_reading own w named new other (step w (reading named new)).reply.verdict;
      new_where_accepted = λ new e.
          kept own l w (reading own new)
          ∙ ap (last_reading own w (reading own new)) e
          ∙ ap (λ (b : Bool). if b then new else (device_of own w.cabinet).reading) (eq-eqb own own refl);
    }

pub written_out : AreaStays → LastKept → FrozenFirst → TakenOver → BesideWrittenOut
written_out stays kept first taken =
    record {
      area = area_written stays;
      last_reading_law = last_written kept;
      frozen = frozen_written first;
      taken_over_law = λ named l w possible fits size staged.
          let version = (device_of named w.cabinet).transfer.staged in
          taken named l w version (record { record_possible = possible; contexts_fit = fits; area_size_law = size })
          (ap (λ (p : Phase). p is Staged && version =? version) staged ∙ eq-eqb version version refl);
    }
