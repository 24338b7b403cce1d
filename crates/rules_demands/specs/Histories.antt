-- Demand 3 written out, with none of the words of rules' Demand3.antt and of what it uses, over the words of Words.antt. `demand_3` promises both, this one
-- proved from that one, so that a line there that says less no longer gives it.
-- Assumes nothing.
use Rattle.std.specs.Prelude.{ℕ, ◌≤◌, ◌<◌}
use mathlib.Core.{Path.◌≡◌, Logic.{◌⊎◌, ◌↔◌}, Bool.true, List.{List, ◌∷◌}}
use Rattle.std.specs.Prelude.{length, take}
use Rattle.std.specs.Prelude.{if◌then◌else◌}
use Rattle.rules.specs.Tests.{◌=?◌}
use Rattle.rules.specs.Record.{fresh_cabinet, possible_cabinet, Whole, whole_of}
use Rattle.rules.specs.Fault.{image_of}
use Rattle.rules.specs.Cabinet.{Event, tick, step}
use Rattle.rules.specs.History.{All, ◌and_then◌}
use Rattle.rules.specs.Transfers.{Exchange, History, Kind, Started, Sent, Finished, Ticked, Powered, Other}
use Rattle.rules.specs.declared.{Phase.TheVariants.Staged, Transfer.Transfer}
use Rattle.rules_demands.specs.Words.{what, remaining, sends_with, others_than, joined, ticks, powers, events_of, comes_to, answers_to, honest?}
use Rattle.std.specs.Prelude.{Ok}

-- the cabinet after a history; a module's transfer; and the bytes of the area that it has received
abbrev pub after : Whole → History → Whole
after m h = comes_to m (events_of h)

abbrev pub transfer_of : (named : ℕ) → Whole → Transfer
transfer_of named w = if named =? 0 then w.cabinet.first.transfer else w.cabinet.second.transfer

abbrev pub received_by : (named : ℕ) → Whole → List ℕ
received_by named w = take (transfer_of named w).received w.area

-- k's events make k, and come to the end to which h's come
pub record SameWrittenOut (m : Whole) (h k : History) : Type 0 where
  pub answers : answers_to m (events_of k) ≡ k
  pub ends : after m k ≡ after m h

-- a transfer of h: its Start, what stands between, its Finish
pub record TransferIn (h : History) : Type 0 where
  pub before : History
  pub start : Exchange
  pub between : History
  pub finish : Exchange
  pub since : History
  pub named : ℕ
  pub starter : ℕ
  pub finisher : ℕ
  pub context : ℕ
  pub flag : ℕ
  pub whole : h ≡ before and_then start ∷ between and_then finish ∷ since
  pub starts : what start ≡ Started named starter context
  pub finishes : what finish ≡ Finished named finisher context flag

-- with its Start and its own Sends behind the others
abbrev pub moved_to : {h : History} → TransferIn h → History
moved_to f =
    f.before
    and_then others_than f.context f.between
    and_then f.start ∷ sends_with f.context f.between
    and_then f.finish ∷ f.since

-- so many such moves, one after another
pub data Moves (h : History) : History → Type 0 where
  no_move : Moves h h
  and_move : {k : History} → Moves h k → (f : TransferIn k) → Moves h (moved_to f)

pub record RearrangedWrittenOut (m : Whole) (h : History) : Type 0 where
  pub k : History
  pub by_moves : Moves h k
  pub unbroken : (f : TransferIn h)
      → (ahead : History) × (behind : History) × (k ≡ ahead and_then f.start ∷ sends_with f.context f.between and_then f.finish ∷ behind)
  pub same : SameWrittenOut m h k

-- The transfer of a module and a host with a context is open after h: its Start is in h, and no Start, no Finish and no power cycle of that module came since.
abbrev pub LeavesOpen : (own : ℕ) → Kind → Type 0
LeavesOpen own (Started named host context) = ⊥
LeavesOpen own (Sent named host context offset piece) = Unit {0}
LeavesOpen own (Finished named host context flag) = ⊥
LeavesOpen own Ticked = Unit {0}
LeavesOpen own (Powered named) = named ≡ own → ⊥
LeavesOpen own Other = Unit {0}

pub record OpenAfter (h : History) (own starter context : ℕ) : Type 0 where
  pub earlier : History
  pub start : Exchange
  pub since : History
  pub stands : h ≡ earlier and_then start ∷ since
  pub starts : what start ≡ Started own starter context
  pub undisturbed : All (λ x. LeavesOpen own (what x)) since

-- A Start comes where no transfer is open, of whichever module; a Send and a Finish where the one with their module and context is, a Send where its last one stopped.
pub record OneAfterAnotherWrittenOut (h : History) : Type 0 where
  pub starts : (before since : History) (x : Exchange) (named host context : ℕ) → h ≡ before and_then x ∷ since → what x ≡ Started named host context
      → (own starter other : ℕ) → OpenAfter before own starter other → ⊥
  pub sends : (before since : History) (x : Exchange) (named host context offset : ℕ) (piece : List ℕ) → h ≡ before and_then x ∷ since
      → what x ≡ Sent named host context offset piece
      → (starter : ℕ) × (now : OpenAfter before named starter context) × (offset ≡ length (joined now.since))
  pub finishes : (before since : History) (x : Exchange) (named host context flag : ℕ) → h ≡ before and_then x ∷ since
      → what x ≡ Finished named host context flag
      → (starter : ℕ) × OpenAfter before named starter context

-- A Send and a Finish are by the host whose transfer is open.
abbrev pub Sends : Exchange → (host : ℕ) → Type 0
Sends x host = (named : ℕ) × (context : ℕ) × (offset : ℕ) × (piece : List ℕ) × (what x ≡ Sent named host context offset piece)

abbrev pub Finishes : Exchange → (host : ℕ) → Type 0
Finishes x host = (named : ℕ) × (context : ℕ) × (flag : ℕ) × (what x ≡ Finished named host context flag)

abbrev pub FromOneHostWrittenOut : History → Type 0
FromOneHostWrittenOut h =
    (before since : History) (x : Exchange) (host : ℕ) → h ≡ before and_then x ∷ since → Sends x host ⊎ Finishes x host
    → (own starter context : ℕ) → OpenAfter before own starter context → host ≡ starter

-- what an event stages in a module: it is Staged with the version, and was not
pub record StagesWrittenOut (named : ℕ) (m : Whole) (event : Event) (version : ℕ) : Type 0 where
  pub not_yet : (transfer_of named m).phase ≡ Staged → (transfer_of named m).staged ≡ version → ⊥
  pub staged : (transfer_of named (step m event).after).phase ≡ Staged
  pub version_is : (transfer_of named (step m event).after).staged ≡ version

-- seven ticks and no power cycle of the module have come since a good image's Finish there
pub record DueWrittenOut (named : ℕ) (h : History) (version : ℕ) : Type 0 where
  pub transfer : TransferIn h
  pub its_own : transfer.named ≡ named
  pub finish_0 : transfer.flag ≡ 0
  pub good : image_of (joined (sends_with transfer.context transfer.between)) ≡ Ok version
  pub seven : ticks transfer.since ≡ 7
  pub powered : powers named transfer.since ≡ 0

-- Of every possible cabinet, whatever contexts the hosts use: h is the history, and r what remains of it.
pub record FromAnywhereWrittenOut (m : Whole) (h r : History) : Type 0 where
  pub struck : SameWrittenOut m h r
  pub moved : (f : TransferIn r) → SameWrittenOut m r (moved_to f)
  pub rearranged : RearrangedWrittenOut m r
  pub once : (named : ℕ) → named ≤ 1 → (before between : History) (x : Exchange) (event : Event) (first second : ℕ)
      → h ≡ before and_then x ∷ between
      → StagesWrittenOut named (after m before) x.event first
      → StagesWrittenOut named (after m h) event second
      → 1 ≤ powers named between
  pub waits : (before between since : History) (x y : Exchange) (named another host other finished started : ℕ)
      → r ≡ before and_then x ∷ between and_then y ∷ since
      → what x ≡ Finished named host finished 0
      → what y ≡ Started another other started
      → (8 ≤ ticks between) ⊎ (1 ≤ powers named between)
  pub higher : (before between since : History) (x y : Exchange) (named another host other first second : ℕ)
      → r ≡ before and_then x ∷ between and_then y ∷ since
      → what x ≡ Started named host first
      → what y ≡ Started another other second
      → first < second

-- Of a fresh cabinet, whatever contexts the hosts use.
pub record WithAnyHostsWrittenOut (m : Whole) (h r : History) : Type 0 where
  pub in_turn : OneAfterAnotherWrittenOut r
  pub received : (f : TransferIn r)
      → received_by f.named (after m (f.before and_then f.start ∷ f.between)) ≡ joined (sends_with f.context f.between)
  pub staged : (named : ℕ) → named ≤ 1 → (event : Event) (version : ℕ)
      → StagesWrittenOut named (after m h) event version ↔ ((event ≡ tick) × DueWrittenOut named r version)
  pub as_sent : (named version : ℕ) (due : DueWrittenOut named r version)
      → received_by named (step (after m h) tick).after ≡ joined (sends_with due.transfer.context due.transfer.between)

-- Of a fresh cabinet and honest hosts.
pub record WithHonestHostsWrittenOut (r : History) : Type 0 where
  pub one_host : FromOneHostWrittenOut r
  pub one_finisher : (f : TransferIn r) → f.finisher ≡ f.starter
  pub one_sender : (f : TransferIn r) (ahead behind : History) (x : Exchange) (named sender offset : ℕ) (piece : List ℕ)
      → f.between ≡ ahead and_then x ∷ behind
      → what x ≡ Sent named sender f.context offset piece
      → sender ≡ f.starter

-- all of it
pub record AllWrittenOut (m : Whole) (h r : History) : Type 0 where
  pub anywhere : FromAnywhereWrittenOut m h r
  pub any_hosts : WithAnyHostsWrittenOut m h r
  pub honest_hosts : WithHonestHostsWrittenOut r

-- What events come to, from a cabinet: the history, and what remains of it.
abbrev pub Of : (Whole → History → History → Type 0) → Whole → List Event → Type 0
Of Promise m events = Promise m (answers_to m events) (remaining (answers_to m events))

pub record Demand3WrittenOut : Type 0 where
  pub demanded : (area : List ℕ) → length area ≡ 16384 → (events : List Event)
      → honest? (answers_to (whole_of fresh_cabinet area) events) ≡ true
      → Of AllWrittenOut (whole_of fresh_cabinet area) events
  -- only what remains need be honest
  pub of_what_remains : (area : List ℕ) → length area ≡ 16384 → (events : List Event)
      → honest? (remaining (answers_to (whole_of fresh_cabinet area) events)) ≡ true
      → Of AllWrittenOut (whole_of fresh_cabinet area) events
  pub with_any_hosts : (area : List ℕ) → length area ≡ 16384 → (events : List Event)
      → Of WithAnyHostsWrittenOut (whole_of fresh_cabinet area) events
  pub from_anywhere : (m : Whole) → possible_cabinet m.cabinet ≡ true → m.cabinet.contexts ≤ 4294967295 → length m.area ≡ 16384
      → (events : List Event) → Of FromAnywhereWrittenOut m events
