-- Demand 3's words: honest hosts.
-- Assumes nothing.
use Rattle.std.specs.Prelude.{ℕ, ◌≤◌}
use mathlib.Core.{Path.◌≡◌, Logic.◌⊎◌, List.{List, [], ◌∷◌}}
use Rattle.std.specs.Prelude.{length}
use Rattle.rules.specs.Transfer.{GetFwInfo, Start, Send, Finish, Query}
use Rattle.rules.specs.Module.{Call, OnMask, OnHealth, OnThresholds, OnTransfer, OnSecurity, OnNothing, call_in}
use Rattle.rules.specs.Cabinet.{Event, call, tick, power, reading}
use Rattle.rules.specs.History.{Throughout}
use Rattle.rules.specs.Transfers.{Exchange, History, Started, kind_of}

-- "each host using only context numbers that a Start answered to it". A call carries a context: a Send or a Query in bytes 0 to 3 of its request, a Finish
-- in bytes 4 to 7. A request too short to carry it uses none.
abbrev pub Carries : Call → (request : List ℕ) (context : ℕ) → Type 0
Carries (OnMask revision) request context = ⊥
Carries OnHealth request context = ⊥
Carries (OnThresholds asked) request context = ⊥
Carries (OnTransfer GetFwInfo) request context = ⊥
Carries (OnTransfer Start) request context = ⊥
Carries (OnTransfer (Send c offset size piece)) request context = (4 ≤ length request) × (context ≡ c)
Carries (OnTransfer (Finish flag reserved c)) request context = (8 ≤ length request) × (context ≡ c)
Carries (OnTransfer (Query c)) request context = (4 ≤ length request) × (context ≡ c)
Carries (OnSecurity asked) request context = ⊥
Carries OnNothing request context = ⊥

-- the host uses the context in this event, whether or not the event is refused
abbrev pub Uses : Event → (host context : ℕ) → Type 0
Uses (call caller named revision index request answer) host context = (host ≡ caller) × Carries (call_in revision index request) request context
Uses tick host context = ⊥
Uses (power named) host context = ⊥
Uses (reading named new) host context = ⊥

-- an accepted Start answered the context to the host, of whichever module: the numbers are shared
abbrev pub Answers : (host context : ℕ) → Exchange → Type 0
Answers host context x = (named : ℕ) × (kind_of x ≡ Started named host context)

-- one of the history did
abbrev pub AnsweredTo : (host context : ℕ) → History → Type 0
AnsweredTo host context [] = ⊥
AnsweredTo host context (x ∷ h) = Answers host context x ⊎ AnsweredTo host context h

-- every context that a host uses in the exchange was answered to it earlier; `past` is what came before
abbrev pub UsesItsOwn : (past : History) → Exchange → Type 0
UsesItsOwn past x = (host context : ℕ) → Uses x.event host context → AnsweredTo host context past

-- so in all of h
abbrev pub HonestAfter : (past h : History) → Type 0
HonestAfter past h = Throughout (λ before x. x ∷ before) UsesItsOwn past h

-- the hosts of the history are honest
abbrev pub Honest : History → Type 0
Honest h = HonestAfter [] h
