-- Demand 3, sentence by sentence, over any history of raw calls, ticks, power cycles and readings. Document 02, T-04: "Demand 3 lets readings move like other
-- events." docs/DEMAND-3.md walks through it.
-- Assumes nothing.
use Rattle.std.specs.Prelude.{ℕ, ◌≤◌, ◌<◌}
use mathlib.Core.{Path.◌≡◌, Logic.{◌⊎◌, ◌↔◌}, Bool.{Bool, true, false, ◌&&◌}, List.{List, ◌∷◌}}
use Rattle.std.specs.Prelude.{length}
use Rattle.rules.specs.Tests.{◌=?◌}
use Rattle.rules.specs.Numbers.{area_size, last_context, verification}
use Rattle.rules.specs.Record.{◌is◌, fresh_cabinet, possible_cabinet, Whole, whole_of, device_of}
use Rattle.rules.specs.Fault.{image_of}
use Rattle.rules.specs.Transfer.{received_bytes}
use Rattle.rules.specs.Cabinet.{Event, tick, step}
use Rattle.rules.specs.History.{history_of, end, Same, only, All, ◌and_then◌}
use Rattle.rules.specs.Transfers.{machine, Exchange, History, Started, Finished, kind_of, none, AllInOrder, AllByStarter}
use Rattle.rules.specs.Hosts.{Honest}
use Rattle.rules.specs.Sends.{own_sends, pieces, SentBy, FinishedIn, ticks_in, power_cycles}
use Rattle.rules.specs.Moves.{moved, ByMoves, rearranged, Unbroken}
use Rattle.rules.specs.declared.{Refusal.TheVariants.{R, Status}}
use Rattle.rules.specs.declared.Phase.TheVariants.{Staged}
use Rattle.rules.specs.Refusals.{Verdict}
use Rattle.std.specs.Prelude.{Ok, Err}

-- "Begin with a fresh module"; document 02, T-09: "both modules begin fresh". The area is any of the right size.
abbrev pub fresh_with : (area : List ℕ) → Whole
fresh_with area = whole_of fresh_cabinet area

-- "Strike out the refused calls except wrong passphrases." R numbers are refusals; a reading or a power cycle that one refuses is struck
-- out too, though it is no call (docs/DECISIONS.md, B69). A wrong passphrase is status 11.
abbrev pub remains : Verdict → Bool
remains (Ok tt) = true
remains (Err (R number)) = false
remains (Err (Status status ext)) = status =? 11

-- what remains
abbrev pub struck : History → History
struck h = only (λ x. remains x.got.reply.verdict) h

-- "What remains gives the same answers and the same end."
abbrev pub StrikeOut : Whole → History → Type 0
StrikeOut m h = Same machine m h (struck h)

-- "Its transfers stand one after another,": those of both modules in one line
abbrev pub OneAfterAnother : History → Type 0
OneAfterAnother h = AllInOrder none h

-- "each from one host."
abbrev pub EachFromOneHost : History → Type 0
EachFromOneHost h = AllByStarter none h

-- the cabinet as the transfer's Finish finds it
abbrev pub at_finish : Whole → {h : History} → FinishedIn h → Whole
at_finish m f = end machine m (f.before and_then f.start ∷ f.between)

-- a module's received bytes of the area
abbrev pub received_in : (named : ℕ) → Whole → List ℕ
received_in named w = received_bytes (device_of named w.cabinet).transfer w.area

-- they are the pieces of the transfer's own Sends, joined in order
abbrev pub Received : Whole → {h : History} → FinishedIn h → Type 0
Received m f = received_in f.named (at_finish m f) ≡ pieces (own_sends f.context f.between)

-- Two senders, one transfer: at a transfer's accepted Finish the received bytes of the area are exactly the pieces of its own Sends, joined in order; every
-- one of those Sends was made by the host that made its Start, and so was the Finish. No byte of another sender is among them.
pub record OwnPieces (m : Whole) {h : History} (f : FinishedIn h) : Type 0 where
  pub received : Received m f
  pub one_sender : All (λ x. SentBy f.starter (kind_of x)) (own_sends f.context f.between)
  pub one_finisher : f.finisher ≡ f.starter

-- "All but its own Sends between a transfer's Start and its accepted Finish can move, in its own order, before that Start, and no answer or end changes." Document
-- 02, T-09: "the other module's events may move before the Start too": they are among what stands between.
abbrev pub Move : Whole → History → Type 0
Move m h = (f : FinishedIn h) → Same machine m h (moved f)

-- The same for all finished transfers at once: the rearranged history is made by such moves and nothing else, every finished transfer of h stands in it as
-- one unbroken Start, Sends, Finish, and no answer or end changes.
pub record AllMoved (m : Whole) (h : History) : Type 0 where
  pub by_moves : ByMoves h (rearranged h)
  pub unbroken : (f : FinishedIn h) → Unbroken (rearranged h) f
  pub same : Same machine m h (rearranged h)

-- whether a module is Staged with this version
abbrev pub staged_with : (named version : ℕ) → Whole → Bool
staged_with named version w =
    (device_of named w.cabinet).transfer.phase is Staged && (device_of named w.cabinet).transfer.staged =? version

-- The event stages the version in the module: it was not Staged with it before, and is afterwards.
pub record Stages (named : ℕ) (w : Whole) (event : Event) (version : ℕ) : Type 0 where
  pub not_before : staged_with named version w ≡ false
  pub afterwards : staged_with named version (step w event).after ≡ true

-- A staging is due in a module: the history has an accepted, non-abort Finish of a transfer of it whose pieces, joined, are a good image of this version; after it
-- come exactly seven ticks, no power cycle of that module, and any other events. Document 02, T-09: "the staging clause's power cycle is the transfer's own module's."
pub record Due (named : ℕ) (h : History) (version : ℕ) : Type 0 where
  pub transfer : FinishedIn h
  pub of_module : transfer.named ≡ named
  pub no_abort : transfer.flag ≡ 0
  pub good : image_of (pieces (own_sends transfer.context transfer.between)) ≡ Ok version
  pub seven_ticks : ticks_in transfer.since ≡ 7
  pub no_power_cycle : power_cycles named transfer.since ≡ 0

-- "exactly when a good image's accepted, non-abort Finish is followed by eight ticks before any power cycle": the next event after the history h stages a
-- version in a module exactly when it is a tick, the eighth, and that staging is due.
abbrev pub StagedExactly : Whole → History → Type 0
StagedExactly m h =
    (named : ℕ) → named ≤ 1 → (event : Event) (version : ℕ)
    → Stages named (end machine m h) event version ↔ ((event ≡ tick) × Due named (struck h) version)

-- What is staged is what was sent: after the eighth tick the module's received bytes of the area are still the pieces of the transfer's own Sends, joined in order.
abbrev pub StagedAsSent : Whole → History → Type 0
StagedAsSent m h =
    (named version : ℕ) (due : Due named (struck h) version)
    → received_in named (step (end machine m h) tick).after ≡ pieces (own_sends due.transfer.context due.transfer.between)

-- "An image is staged once": between an exchange that stages in a module and a later event that does there is a power cycle of that module. That one Finish never
-- stages twice is in `StagedExactly`: what stages is the eighth tick after it, before any power cycle.
abbrev pub StagedOnce : Whole → History → Type 0
StagedOnce m h =
    (named : ℕ) → named ≤ 1 → (before between : History) (x : Exchange) (event : Event) (first second : ℕ)
    → h ≡ before and_then x ∷ between
    → Stages named (end machine m before) x.event first
    → Stages named (end machine m h) event second
    → 1 ≤ power_cycles named between

-- One image waits at a time, in both modules together: between an accepted, non-abort Finish and a later Start, of whichever module, there are eight ticks or a
-- power cycle of the Finish's module. As each Finish has a Start of its own (`OneAfterAnother`), no two Finishes share a staging.
abbrev pub OneWaits : History → Type 0
OneWaits h =
    (before between since : History) (x y : Exchange) (named another host other finished started : ℕ)
    → h ≡ before and_then x ∷ between and_then y ∷ since
    → kind_of x ≡ Finished named host finished 0
    → kind_of y ≡ Started another other started
    → (verification ≤ ticks_in between) ⊎ (1 ≤ power_cycles named between)

-- "Numbers outlive power cycles and are never given again": of two Starts of a history, of whichever modules, the later is answered the higher number.
abbrev pub NeverAgain : History → Type 0
NeverAgain h =
    (before between since : History) (x y : Exchange) (named another host other first second : ℕ)
    → h ≡ before and_then x ∷ between and_then y ∷ since
    → kind_of x ≡ Started named host first
    → kind_of y ≡ Started another other second
    → first < second

-- Demand 3, for a cabinet m and a history h from it.
pub record Demand3Of (m : Whole) (h : History) : Type 0 where
  pub strike_out : StrikeOut m h
  pub one_after_another : OneAfterAnother (struck h)
  pub each_from_one_host : EachFromOneHost (struck h)
  pub own_pieces : (f : FinishedIn (struck h)) → OwnPieces m f
  pub move : Move m (struck h)
  pub all_moved : AllMoved m (struck h)
  pub staged_exactly : StagedExactly m h
  pub staged_as_sent : StagedAsSent m h
  pub staged_once : StagedOnce m h
  pub one_waits : OneWaits (struck h)
  pub never_again : NeverAgain (struck h)

-- "Begin with a fresh module, .. and let hosts' calls, ticks and power cycles [and readings] come in any order, each host using only context numbers that a Start answered
-- to it."
abbrev pub Demand3 : Type 0
Demand3 =
    (area : List ℕ) → length area ≡ area_size → (events : List Event)
    → Honest (history_of machine (fresh_with area) events)
    → Demand3Of (fresh_with area) (history_of machine (fresh_with area) events)

-- The same, where only what remains need be honest: a refused call may carry any context.
abbrev pub DemandOfWhatRemains : Type 0
DemandOfWhatRemains =
    (area : List ℕ) → length area ≡ area_size → (events : List Event)
    → Honest (struck (history_of machine (fresh_with area) events))
    → Demand3Of (fresh_with area) (history_of machine (fresh_with area) events)

-- A cabinet whose record is possible and has the declared width of contexts, with an area of the right size.
pub record Sound (m : Whole) : Type 0 where
  pub record_possible : possible_cabinet m.cabinet ≡ true
  pub contexts_fit : m.cabinet.contexts ≤ last_context
  pub area_size_law : length m.area ≡ area_size

-- What holds from every such cabinet, whatever contexts the hosts use.
pub record FromAnywhere (m : Whole) (h : History) : Type 0 where
  pub strike_out : StrikeOut m h
  pub move : Move m (struck h)
  pub all_moved : AllMoved m (struck h)
  pub staged_once : StagedOnce m h
  pub one_waits : OneWaits (struck h)
  pub never_again : NeverAgain (struck h)

abbrev pub DemandFromAnywhere : Type 0
DemandFromAnywhere = (m : Whole) → Sound m → (events : List Event) → FromAnywhere m (history_of machine m events)

-- What `FromAnywhere` does not say yet, from a fresh cabinet, whatever contexts the hosts use. Only "each from one host" is left out, and with it the hosts
-- in `OwnPieces`: they alone need honest hosts.
pub record WithAnyHosts (m : Whole) (h : History) : Type 0 where
  pub one_after_another : OneAfterAnother (struck h)
  pub received : (f : FinishedIn (struck h)) → Received m f
  pub staged_exactly : StagedExactly m h
  pub staged_as_sent : StagedAsSent m h

abbrev pub DemandWithAnyHosts : Type 0
DemandWithAnyHosts =
    (area : List ℕ) → length area ≡ area_size → (events : List Event)
    → WithAnyHosts (fresh_with area) (history_of machine (fresh_with area) events)
