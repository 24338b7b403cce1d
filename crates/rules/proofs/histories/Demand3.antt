-- Demand 3: the theorem, and what of it holds from every sound cabinet.
-- Assumes nothing.
use Prim.Native.Nat.{ℕ}
use mathlib.Core.{Path.{◌≡◌, refl, sym, ◌∙◌, ap, subst}, Bool.{Bool, true, false}, List.[]}
use Rattle.rules.specs.{Tests.◌=?◌, Record.{◌is◌, Whole}, Cabinet.{Event, tick}, History.{history_of, end, All}, Transfers.{machine, History, none}}
use Rattle.rules.specs.Demand3.{fresh_with, struck, StrikeOut, EachFromOneHost, Stages, Due, StagedExactly, StagedAsSent, Demand3, DemandOfWhatRemains, Sound, FromAnywhere, WithAnyHosts, DemandFromAnywhere, DemandWithAnyHosts}
use Rattle.rules.specs.declared.Phase.TheVariants.{Verifying}
use Rattle.rules.proofs.{histories.Joining.plays_log, histories.Struck.strike_out, page.Split.{seen_from, part_of}}
use Rattle.rules.proofs.{page.Possible.sound_fresh, histories.Gate.{Remains, sound_end}, histories.Moved.move, histories.Places.at_side}
use Rattle.rules.proofs.{histories.Unbroken.all_moved, histories.Honest.{all_remains, honest_struck}, histories.Order.{Fits, orders}}
use Rattle.rules.proofs.{histories.Turn.{one_host, hosts_fresh}, histories.Pieces.{received, own_pieces}}
use Rattle.rules.proofs.{histories.Stage.{Ripe, stages_ripe, ripe_stages, staged_once}, histories.Due.{bytes_of, ripe_due, due_ripe, due_sent}}
use Rattle.rules.proofs.{histories.Waits.one_waits, histories.Again.never_again}

-- From every sound cabinet, and with hosts that use any context.
pub from_anywhere : DemandFromAnywhere
from_anywhere m s events =
    record {
      strike_out = st;
      move = move m (struck h) s st.plays (all_remains h);
      all_moved = all_moved m (struck h) s st.plays (all_remains h);
      staged_once = staged_once m h s;
      one_waits = one_waits m (struck h) s st.plays (all_remains h);
      never_again = never_again m (struck h) s st.plays (all_remains h);
    }
  where
    h : History
    h = history_of machine m events

    st : StrikeOut m h
    st = strike_out m h (plays_log machine m events)

-- From a fresh cabinet, and with hosts that use any context.
pub with_any_hosts : DemandWithAnyHosts
with_any_hosts area size events =
    record { one_after_another = orders none m r s fresh st.plays k; received = λ f. received m r f s fresh st.plays k; staged_exactly = staging; staged_as_sent = as_sent }
  where
    m : Whole
    m = fresh_with area

    h : History
    h = history_of machine m events

    r : History
    r = struck h

    s : Sound m
    s = sound_fresh area size

    fresh : Fits none m
    fresh = (refl, refl)

    st : StrikeOut m h
    st = strike_out m h (plays_log machine m events)

    k : All Remains r
    k = all_remains h

    none_verifies : (first : Bool) → ((seen_from first m).own.transfer.phase is Verifying) ≡ false
    none_verifies true = refl
    none_verifies false = refl

    staging : StagedExactly m h
    staging named l event version = (forth, back)
      where
        forth : Stages named (end machine m h) event version → (event ≡ tick) × Due named r version
        forth g =
            let q = stages_ripe named (end machine m h) event version (sound_end m h s) g in (
              q.0,
              subst (λ (n : ℕ). Due n r version) (at_side named l)
                  (ripe_due (named =? 0) m r version s fresh (none_verifies (named =? 0)) st.plays k
                  (subst (λ (z : Whole). Ripe (part_of (seen_from (named =? 0) z)) version) (sym st.ends) q.1)),
            )

        back : (event ≡ tick) × Due named r version → Stages named (end machine m h) event version
        back g =
            subst (λ (e : Event). Stages named (end machine m h) e version) (sym g.0)
            (ripe_stages named (end machine m h) version (sound_end m h s)
            (subst (λ (z : Whole). Ripe (part_of (seen_from (named =? 0) z)) version) st.ends (due_ripe named m r version s fresh st.plays k g.1)))

    as_sent : StagedAsSent m h
    as_sent named version d =
        ap (λ (z : Whole). bytes_of (part_of (seen_from (named =? 0) (machine.next z tick)))) (sym st.ends) ∙ due_sent named m r version s fresh st.plays k d

-- From a fresh cabinet, where what remains is honest.
pub of_what_remains : DemandOfWhatRemains
of_what_remains area size events honest =
    record {
      strike_out = anywhere.strike_out;
      one_after_another = any_hosts.one_after_another;
      each_from_one_host = from_one_host;
      own_pieces = λ f. own_pieces m r f s fresh anywhere.strike_out.plays k (any_hosts.received f) from_one_host;
      move = anywhere.move;
      all_moved = anywhere.all_moved;
      staged_exactly = any_hosts.staged_exactly;
      staged_as_sent = any_hosts.staged_as_sent;
      staged_once = anywhere.staged_once;
      one_waits = anywhere.one_waits;
      never_again = anywhere.never_again;
    }
  where
    m : Whole
    m = fresh_with area

    h : History
    h = history_of machine m events

    r : History
    r = struck h

    s : Sound m
    s = sound_fresh area size

    fresh : Fits none m
    fresh = (refl, refl)

    anywhere : FromAnywhere m h
    anywhere = from_anywhere m s events

    any_hosts : WithAnyHosts m h
    any_hosts = with_any_hosts area size events

    k : All Remains r
    k = all_remains h

    from_one_host : EachFromOneHost r
    from_one_host = one_host [] none m r s fresh (hosts_fresh m) honest anywhere.strike_out.plays k

-- Demand 3.
pub demand_3 : Demand3
demand_3 area size events honest = of_what_remains area size events (honest_struck (history_of machine (fresh_with area) events) honest)
