-- Demand 3's words: a transfer's own Sends and their pieces, a transfer with an accepted Finish, and how many ticks and power cycles a history has.
-- Assumes nothing.
use Rattle.std.specs.Prelude.{ℕ}
use mathlib.Core.{Path.◌≡◌, Bool.{Bool, false}, List.{List, [], ◌∷◌, ◌++◌}}
use Rattle.std.specs.Prelude.{if◌then◌else◌}
use Rattle.rules.specs.Tests.{◌=?◌}
use Rattle.rules.specs.History.{only, except, total, ◌and_then◌}
use Rattle.rules.specs.Transfers.{Exchange, History, Kind, Started, Sent, Finished, Ticked, Powered, Other, kind_of}

-- A transfer goes by its context, which is never given again, by whichever module. Its own Sends are those with its context.
abbrev pub is_send_of : (context : ℕ) → Kind → Bool
is_send_of context (Started named host c) = false
is_send_of context (Sent named host c offset piece) = c =? context
is_send_of context (Finished named host c flag) = false
is_send_of context Ticked = false
is_send_of context (Powered named) = false
is_send_of context Other = false

-- whether an exchange is one of them
abbrev pub own_send : (context : ℕ) → Exchange → Bool
own_send context x = is_send_of context (kind_of x)

-- "its own Sends" of a history, in their own order
abbrev pub own_sends : (context : ℕ) → History → History
own_sends context h = only (own_send context) h

-- "All but its own Sends", in their own order
abbrev pub others : (context : ℕ) → History → History
others context h = except (own_send context) h

-- the piece of a Send
abbrev pub piece_of : Kind → List ℕ
piece_of (Started named host context) = []
piece_of (Sent named host context offset piece) = piece
piece_of (Finished named host context flag) = []
piece_of Ticked = []
piece_of (Powered named) = []
piece_of Other = []

-- the pieces of a history's Sends, joined in order
abbrev pub pieces : History → List ℕ
pieces [] = []
pieces (x ∷ h) = piece_of (kind_of x) ++ pieces h

-- a Send by this host
abbrev pub SentBy : (host : ℕ) → Kind → Type 0
SentBy host (Started named sender context) = ⊥
SentBy host (Sent named sender context offset piece) = sender ≡ host
SentBy host (Finished named sender context flag) = ⊥
SentBy host Ticked = ⊥
SentBy host (Powered named) = ⊥
SentBy host Other = ⊥

-- A transfer of the history with an accepted Finish, abort or not: its Start, what stands between, its Finish; both of one module.
pub record FinishedIn (h : History) : Type 0 where
  pub before : History
  pub start : Exchange
  pub between : History
  pub finish : Exchange
  pub since : History
  pub named : ℕ
  pub starter : ℕ
  pub finisher : ℕ
  pub context : ℕ
  pub flag : ℕ
  pub whole : h ≡ before and_then start ∷ between and_then finish ∷ since
  pub starts : kind_of start ≡ Started named starter context
  pub finishes : kind_of finish ≡ Finished named finisher context flag

-- one for a tick
abbrev pub tick_count : Kind → ℕ
tick_count (Started named host context) = 0
tick_count (Sent named host context offset piece) = 0
tick_count (Finished named host context flag) = 0
tick_count Ticked = 1
tick_count (Powered named) = 0
tick_count Other = 0

-- how many ticks a history has
abbrev pub ticks_in : History → ℕ
ticks_in h = total (λ x. tick_count (kind_of x)) h

-- one for a power cycle of this module
abbrev pub power_count : (own : ℕ) → Kind → ℕ
power_count own (Started named host context) = 0
power_count own (Sent named host context offset piece) = 0
power_count own (Finished named host context flag) = 0
power_count own Ticked = 0
power_count own (Powered named) = if named =? own then 1 else 0
power_count own Other = 0

-- how many power cycles of this module a history has
abbrev pub power_cycles : (own : ℕ) → History → ℕ
power_cycles own h = total (λ x. power_count own (kind_of x)) h
