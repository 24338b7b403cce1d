-- Demand 3 written out follows from demand 3, and what holds from anywhere and with any hosts from the theorems that say it.
-- Assumes nothing.
use Prim.Native.Nat.{ℕ, ◌≤◌}
use mathlib.Core.{Path.{◌≡◌, refl, sym, ◌∙◌, ap, subst}, Logic.{◌⊎◌, inl, inr}, Bool.{Bool, true, false, false≢true, ◌&&◌}, List.{List, [], ◌∷◌, ◌++◌}}
use borrow.Author.Tests.{eqb-true, eq-eqb}
use lib.ListN.{take}
use Rattle.std.specs.Prelude.{if◌then◌else◌}
use Rattle.rules.{specs.Tests.{◌=?◌}, specs.Numbers.verification, specs.Record.{Whole, ◌is◌, device_of}, specs.Fault.image_of, specs.Cabinet.{Event, tick, step}}
use Rattle.rules.{specs.History.{All, keep, only, history_of, Same, ◌and_then◌}, specs.Transfers.{machine, Exchange, History, kind_of, none, AllInOrder, AllByStarter}}
use Rattle.rules.{specs.Hosts.Honest, specs.Sends.{is_send_of, own_send, own_sends, others, SentBy, FinishedIn, ticks_in, power_cycles}}
use Rattle.rules.specs.Moves.{moved, ByMoves, as_it_is, one_more, rearranged}
use Rattle.rules.specs.Demand3.{fresh_with, struck, Received, OwnPieces, AllMoved, received_in, staged_with, Stages, Due, StagedExactly, StagedAsSent, StagedOnce, OneWaits, NeverAgain, Demand3Of, Demand3, DemandOfWhatRemains, DemandFromAnywhere, DemandWithAnyHosts}
use Rattle.rules.{specs.declared.Transfer.Transfer, specs.declared.Phase.Phase, specs.declared.Phase.TheVariants.Staged, proofs.page.Choice.and_true, proofs.page.Facts.is_phase}
use Rattle.rules_demands.specs.Words.{remaining, joined, sends_with, others_than, ticks, powers, answers_to}
use Rattle.rules_demands.specs.Histories.{after, transfer_of, received_by, SameWrittenOut, TransferIn, moved_to, Moves, no_move, and_move, RearrangedWrittenOut, StagesWrittenOut, DueWrittenOut, FromAnywhereWrittenOut, WithAnyHostsWrittenOut, WithHonestHostsWrittenOut, AllWrittenOut, Of, Demand3WrittenOut}
use Rattle.rules_demands.proofs.Words.{kind_is, remaining_is, sends_is, others_is, sent_is, ticks_is, powers_is, history_is, end_is, plays_is}
use Rattle.rules_demands.proofs.{Turns.{in_turn, one_host}, Checked.checked}

-- the same answers and the same end
same_written : (m : Whole) (h k : History) → Same machine m h k → SameWrittenOut m h k
same_written m h k s = record { answers = plays_is m k s.plays; ends = sym (end_is m k) ∙ s.ends ∙ end_is m h }

-- a transfer with its Finish, in either words
abbrev finished_in : {h : History} → TransferIn h → FinishedIn h
finished_in f =
    record {
      before = f.before;
      start = f.start;
      between = f.between;
      finish = f.finish;
      since = f.since;
      named = f.named;
      starter = f.starter;
      finisher = f.finisher;
      context = f.context;
      flag = f.flag;
      whole = f.whole;
      starts = kind_is f.start ∙ f.starts;
      finishes = kind_is f.finish ∙ f.finishes;
    }

abbrev transfer_in : {h : History} → FinishedIn h → TransferIn h
transfer_in f =
    record {
      before = f.before;
      start = f.start;
      between = f.between;
      finish = f.finish;
      since = f.since;
      named = f.named;
      starter = f.starter;
      finisher = f.finisher;
      context = f.context;
      flag = f.flag;
      whole = f.whole;
      starts = sym (kind_is f.start) ∙ f.starts;
      finishes = sym (kind_is f.finish) ∙ f.finishes;
    }

moved_as : (context : ℕ) (before between behind : History) (start : Exchange)
    → before ++ (others context between ++ (start ∷ (own_sends context between ++ behind)))
    ≡ before ++ (others_than context between ++ (start ∷ (sends_with context between ++ behind)))
moved_as context before between behind start =
    ap (λ (z : History). before ++ (z ++ (start ∷ (own_sends context between ++ behind)))) (others_is context between)
    ∙ ap (λ (z : History). before ++ (others_than context between ++ (start ∷ (z ++ behind)))) (sends_is context between)

moved_written : {h : History} (f : FinishedIn h) → moved f ≡ moved_to (transfer_in f)
moved_written f = moved_as f.context f.before f.between (f.finish ∷ f.since) f.start

moves_written : {h k : History} → ByMoves h k → Moves h k
moves_written as_it_is = no_move
moves_written {h} (one_more b f) = subst (Moves h) (sym (moved_written f)) (and_move (moves_written b) (transfer_in f))

-- there is no other way to make moves
moves_back : {h k : History} → Moves h k → ByMoves h k
moves_back no_move = as_it_is
moves_back {h} (and_move b f) = subst (ByMoves h) (moved_written (finished_in f)) (one_more (moves_back b) (finished_in f))

-- a module's transfer, in either words
transfer_is : (named : ℕ) (m : Whole) → (device_of named m.cabinet).transfer ≡ transfer_of named m
transfer_is named m = go (named =? 0)
  where
    go : (b : Bool) → (if b then m.cabinet.first else m.cabinet.second).transfer ≡ (if b then m.cabinet.first.transfer else m.cabinet.second.transfer)
    go true = refl
    go false = refl

received_is : (named : ℕ) (m : Whole) → received_in named m ≡ received_by named m
received_is named m = ap (λ (t : Transfer). take t.received m.area) (transfer_is named m)

-- staging
staged_as : (version : ℕ) → Transfer → Bool
staged_as version t = t.phase is Staged && t.staged =? version

staged_is : (named version : ℕ) (m : Whole) → staged_with named version m ≡ staged_as version (transfer_of named m)
unfolding staged_as
staged_is named version m = ap (staged_as version) (transfer_is named m)

staged_true : (named : ℕ) (m : Whole) (version : ℕ) → (transfer_of named m).phase ≡ Staged → (transfer_of named m).staged ≡ version → staged_with named version m ≡ true
unfolding staged_as
staged_true named m version p q =
    staged_is named version m
    ∙ ap (λ (z : Phase). z is Staged && (transfer_of named m).staged =? version) p
    ∙ eq-eqb (transfer_of named m).staged version q

staged_parts : (named : ℕ) (m : Whole) (version : ℕ) → staged_with named version m ≡ true → ((transfer_of named m).phase ≡ Staged) × ((transfer_of named m).staged ≡ version)
unfolding staged_as
staged_parts named m version e =
    let t = transfer_of named m in
    let q = and_true (t.phase is Staged) (t.staged =? version) (sym (staged_is named version m) ∙ e) in
    (is_phase t.phase Staged q.0, eqb-true t.staged version q.1)

stages_written : (named : ℕ) (m : Whole) (event : Event) (version : ℕ) → Stages named m event version → StagesWrittenOut named m event version
stages_written named m event version s =
    let q = staged_parts named (step m event).after version s.afterwards in
    record { not_yet = λ p v. false≢true (sym s.not_before ∙ staged_true named m version p v); staged = q.0; version_is = q.1 }

stages_back : (named : ℕ) (m : Whole) (event : Event) (version : ℕ) → StagesWrittenOut named m event version → Stages named m event version
stages_back named m event version s =
    record { not_before = go (staged_with named version m) refl; afterwards = staged_true named (step m event).after version s.staged s.version_is }
  where
    go : (b : Bool) → staged_with named version m ≡ b → b ≡ false
    go true e = let q = staged_parts named m version e in absurd (s.not_yet q.0 q.1)
    go false e = refl

due_written : (named : ℕ) {h : History} {version : ℕ} → Due named h version → DueWrittenOut named h version
due_written named d =
    let f = d.transfer in
    record {
      transfer = transfer_in f;
      its_own = d.of_module;
      finish_0 = d.no_abort;
      good = ap image_of (sym (sent_is f.context f.between)) ∙ d.good;
      seven = sym (ticks_is f.since) ∙ d.seven_ticks;
      powered = sym (powers_is named f.since) ∙ d.no_power_cycle;
    }

abbrev due_back : (named : ℕ) {h : History} {version : ℕ} → DueWrittenOut named h version → Due named h version
due_back named d =
    let f = d.transfer in
    record {
      transfer = finished_in f;
      of_module = d.its_own;
      no_abort = d.finish_0;
      good = ap image_of (sent_is f.context f.between) ∙ d.good;
      seven_ticks = ticks_is f.since ∙ d.seven;
      no_power_cycle = powers_is named f.since ∙ d.powered;
    }

-- each sentence, of a history h and what remains of it, r
module _ (m : Whole) (h r : History) where
  rearranged_written : AllMoved m r → RearrangedWrittenOut m r
  rearranged_written a =
      record {
        k = rearranged r;
        by_moves = moves_written a.by_moves;
        unbroken = λ f.
            let u = a.unbroken (finished_in f) in (
              u.ahead,
              u.behind,
              u.stands ∙ ap (λ (z : History). u.ahead ++ (f.start ∷ (z ++ (f.finish ∷ u.behind)))) (sends_is f.context f.between),
            );
        same = same_written m r (rearranged r) a.same;
      }

  anywhere_written : Same machine m h r → ((f : FinishedIn r) → Same machine m r (moved f)) → AllMoved m r → StagedOnce m h → OneWaits r → NeverAgain r
      → FromAnywhereWrittenOut m h r
  anywhere_written strikes moves all once waits again =
      record {
        struck = same_written m h r strikes;
        moved = λ f. same_written m r (moved_to f) (subst (Same machine m r) (moved_written (finished_in f)) (moves (finished_in f)));
        rearranged = rearranged_written all;
        once = λ named l before between x event first second whole a b.
            subst (λ (n : ℕ). 1 ≤ n) (powers_is named between)
            (once named l before between x event first second whole
            (subst (λ (z : Whole). Stages named z x.event first) (sym (end_is m before)) (stages_back named (after m before) x.event first a))
            (subst (λ (z : Whole). Stages named z event second) (sym (end_is m h)) (stages_back named (after m h) event second b)));
        waits = λ before between since x y named another host other finished started whole a b.
            either named between (waits before between since x y named another host other finished started whole (kind_is x ∙ a) (kind_is y ∙ b));
        higher = λ before between since x y named another host other first second whole a b.
            again before between since x y named another host other first second whole (kind_is x ∙ a) (kind_is y ∙ b);
      }
    where
      either : (named : ℕ) (between : History) → (verification ≤ ticks_in between) ⊎ (1 ≤ power_cycles named between) → (8 ≤ ticks between) ⊎ (1 ≤ powers named between)
      either named between (inl n) = inl (subst (λ (z : ℕ). 8 ≤ z) (ticks_is between) n)
      either named between (inr n) = inr (subst (λ (z : ℕ). 1 ≤ z) (powers_is named between) n)

  any_hosts_written : AllInOrder none r → ((f : FinishedIn r) → Received m f) → StagedExactly m h → StagedAsSent m h → r ≡ struck h → WithAnyHostsWrittenOut m h r
  any_hosts_written order received exactly sent same =
      record {
        in_turn = in_turn r order;
        received = λ f.
            sym (received_is f.named (after m (f.before and_then f.start ∷ f.between)))
            ∙ ap (received_in f.named) (sym (end_is m (f.before and_then f.start ∷ f.between)))
            ∙ received (finished_in f)
            ∙ sent_is f.context f.between;
        staged = λ named l event version. (
          λ s.
              let q = (exactly named l event version).0 (subst (λ (z : Whole). Stages named z event version) (sym (end_is m h)) (stages_back named (after m h) event version s)) in
              (q.0, due_written named (subst (λ (z : History). Due named z version) (sym same) q.1)),
          λ d.
              stages_written named (after m h) event version
              (subst (λ (z : Whole). Stages named z event version) (end_is m h) ((exactly named l event version).1 (d.0, subst (λ (z : History). Due named z version) same (due_back named d.1)))),
        );
        as_sent = as_sent;
      }
    where
      as_sent : (named version : ℕ) (due : DueWrittenOut named r version)
          → received_by named (step (after m h) tick).after ≡ joined (sends_with due.transfer.context due.transfer.between)
      as_sent named version due = subst Said (sym same) (λ d. here d) due
        where
          Said : History → Type 0
          Said z = (d : DueWrittenOut named z version) → received_by named (step (after m h) tick).after ≡ joined (sends_with d.transfer.context d.transfer.between)

          here : (d : DueWrittenOut named (struck h) version) → received_by named (step (after m h) tick).after ≡ joined (sends_with d.transfer.context d.transfer.between)
          here d =
              sym (received_is named (step (after m h) tick).after)
              ∙ ap (λ (z : Whole). received_in named (step z tick).after) (sym (end_is m h))
              ∙ sent named version (due_back named d)
              ∙ sent_is d.transfer.context d.transfer.between

-- one that passes the test is among those that do
picked : (test : Exchange → Bool) (P : Exchange → Type 0) (ahead behind : History) (x : Exchange) → test x ≡ true → All P (only test (ahead and_then x ∷ behind)) → P x
picked test P [] behind x e all = (subst (λ (b : Bool). All P (keep b x (only test behind))) e all).0
picked test P (y ∷ ahead) behind x e all = picked test P ahead behind x e (go (test y) all)
  where
    go : (b : Bool) → All P (keep b y (only test (ahead and_then x ∷ behind))) → All P (only test (ahead and_then x ∷ behind))
    go true a = a.1
    go false a = a

honest_hosts_written : (m : Whole) (r : History) → AllByStarter none r → ((f : FinishedIn r) → OwnPieces m f) → WithHonestHostsWrittenOut r
honest_hosts_written m r starters own =
    record {
      one_host = one_host r starters;
      one_finisher = λ f. (own (finished_in f)).one_finisher;
      one_sender = λ f ahead behind x named sender offset piece whole sent.
          subst (SentBy f.starter) (kind_is x ∙ sent)
          (picked (own_send f.context) (λ z. SentBy f.starter (kind_of z)) ahead behind x
          (ap (is_send_of f.context) (kind_is x ∙ sent) ∙ eq-eqb f.context f.context refl)
          (subst (λ (z : History). All (λ y. SentBy f.starter (kind_of y)) (own_sends f.context z)) whole (own (finished_in f)).one_sender));
    }

-- in the words of the history and of what remains
module _ (Promise : Whole → History → History → Type 0) (m : Whole) (events : List Event) where
  of_events : Promise m (history_of machine m events) (struck (history_of machine m events)) → Of Promise m events
  of_events p =
      subst (λ (h : History). Promise m h (remaining h)) (history_is m events)
      (subst (Promise m (history_of machine m events)) (remaining_is (history_of machine m events)) p)

all_written : (m : Whole) (h : History) → Demand3Of m h → AllWrittenOut m h (struck h)
all_written m h d =
    record {
      anywhere = anywhere_written m h (struck h) d.strike_out d.move d.all_moved d.staged_once d.one_waits d.never_again;
      any_hosts = any_hosts_written m h (struck h) d.one_after_another (λ f. (d.own_pieces f).received) d.staged_exactly d.staged_as_sent refl;
      honest_hosts = honest_hosts_written m (struck h) d.each_from_one_host d.own_pieces;
    }

pub written_out : Demand3 → DemandOfWhatRemains → DemandWithAnyHosts → DemandFromAnywhere → Demand3WrittenOut
written_out demand remain hosts anywhere =
    record {
      demanded = λ area size events honest.
          let m : Whole = fresh_with area in
          of_events AllWrittenOut m events
          (all_written m (history_of machine m events)
          (demand area size events (subst Honest (sym (history_is m events)) ((checked (answers_to m events)).0 honest))));
      of_what_remains = λ area size events honest.
          let m : Whole = fresh_with area in
          of_events AllWrittenOut m events
          (all_written m (history_of machine m events)
          (remain area size events
          (subst Honest (sym (remaining_is (history_of machine m events) ∙ ap remaining (history_is m events))) ((checked (remaining (answers_to m events))).0 honest))));
      with_any_hosts = λ area size events.
          let m : Whole = fresh_with area in
          let w = hosts area size events in
          of_events WithAnyHostsWrittenOut m events
          (any_hosts_written m (history_of machine m events) (struck (history_of machine m events)) w.one_after_another w.received w.staged_exactly w.staged_as_sent refl);
      from_anywhere = λ m possible fits size events.
          let a = anywhere m (record { record_possible = possible; contexts_fit = fits; area_size_law = size }) events in
          of_events FromAnywhereWrittenOut m events
          (anywhere_written m (history_of machine m events) (struck (history_of machine m events)) a.strike_out a.move a.all_moved a.staged_once a.one_waits a.never_again);
    }
