-- Demand 3's words: the cabinet's histories, what an exchange is to the transfers, which transfer is open, in what order they stand, and from which host.
-- Assumes nothing.
use Rattle.std.specs.Prelude.{ℕ}
use mathlib.Core.{Path.◌≡◌, List.{List, [], ◌++◌}}
use Rattle.std.specs.Prelude.{length}
use Rattle.std.specs.Prelude.{if◌then◌else◌}
use Rattle.rules.specs.Tests.{◌=?◌}
use Rattle.rules.specs.Bytes.{number_at}
use Rattle.rules.specs.Refusals.{refused?}
use Rattle.rules.specs.Transfer.{GetFwInfo, Start, Send, Finish, Query}
use Rattle.rules.specs.Record.{Whole}
use Rattle.rules.specs.Module.{Call, OnMask, OnHealth, OnThresholds, OnTransfer, OnSecurity, OnNothing, call_in}
use Rattle.rules.specs.Cabinet.{Event, call, tick, power, reading, step}
use Rattle.rules.specs.History.{Machine, ExchangeOf, Throughout}
use Rattle.rules.specs.declared.Reply.{Reply}

-- What an event is answered: the reply, and the whole answer buffer afterwards.
pub record Answer : Type 0 where
  pub reply : Reply
  pub buffer : List ℕ

-- "carry record and area on from call to call": the cabinet as a machine
abbrev pub machine : Machine Whole Event Answer
machine =
    record {
      answer = λ w event. record { reply = (step w event).reply; buffer = (step w event).answer };
      next = λ w event. (step w event).after;
    }

-- an exchange with the cabinet
abbrev pub Exchange : Type 0
Exchange = ExchangeOf Event Answer

-- exchanges, in the order in which they came
abbrev pub History : Type 0
History = List Exchange

-- What an exchange is to the transfers: a module's accepted Start by a host, answered a context; its accepted Send or Finish by a host with a context; a tick; a
-- module's power cycle, taken or not, for one that is refused names neither module; or none of these, as a refused call and a reading are.
pub data Kind : Type 0 where
  Started : (named host context : ℕ) → Kind
  Sent : (named host context offset : ℕ) (piece : List ℕ) → Kind
  Finished : (named host context flag : ℕ) → Kind
  Ticked : Kind
  Powered : (named : ℕ) → Kind
  Other : Kind

-- this kind, if the answer is no refusal
abbrev pub if_accepted : Answer → Kind → Kind
if_accepted got kind = if refused? got.reply.verdict then Other else kind

-- a call, by what its bytes say; the context that a Start gives stands in bytes 4 to 7 of its answer
abbrev pub call_kind : (named host : ℕ) → Call → Answer → Kind
call_kind named host (OnMask revision) got = Other
call_kind named host OnHealth got = Other
call_kind named host (OnThresholds asked) got = Other
call_kind named host (OnTransfer GetFwInfo) got = Other
call_kind named host (OnTransfer Start) got = if_accepted got (Started named host (number_at 4 4 got.buffer))
call_kind named host (OnTransfer (Send context offset size piece)) got = if_accepted got (Sent named host context offset piece)
call_kind named host (OnTransfer (Finish flag reserved context)) got = if_accepted got (Finished named host context flag)
call_kind named host (OnTransfer (Query context)) got = Other
call_kind named host (OnSecurity asked) got = Other
call_kind named host OnNothing got = Other

-- an event that was answered so
abbrev pub event_kind : Event → Answer → Kind
event_kind (call host named revision index request answer) got = call_kind named host (call_in revision index request) got
event_kind tick got = Ticked
event_kind (power named) got = Powered named
event_kind (reading named new) got = Other

-- an exchange
abbrev pub kind_of : Exchange → Kind
kind_of x = event_kind x.event x.got

-- Which transfer is open: none, or that of a module and a host with a context, whose pieces so far, joined, are these bytes.
pub data Open : Type 0 where
  none : Open
  by : (named host context : ℕ) (bytes : List ℕ) → Open

-- the bytes that the open transfer has sent so far
abbrev pub bytes_so_far : Open → List ℕ
bytes_so_far none = []
bytes_so_far (by named host context bytes) = bytes

-- the same transfer, with one piece more
abbrev pub with_piece : Open → (piece : List ℕ) → Open
with_piece none piece = none
with_piece (by named host context bytes) piece = by named host context (bytes ++ piece)

-- its own module's power cycle closes it, and no other's
abbrev pub after_power : (named : ℕ) → Open → Open
after_power named none = none
after_power named (by own host context bytes) = if named =? own then none else by own host context bytes

-- which one is open afterwards: a Start opens a transfer; a Finish closes it, and so does a power cycle of its module
abbrev pub open_after : Open → Kind → Open
open_after now (Started named host context) = by named host context []
open_after now (Sent named host context offset piece) = with_piece now piece
open_after now (Finished named host context flag) = none
open_after now Ticked = now
open_after now (Powered named) = after_power named now
open_after now Other = now

-- the module and the context are those of the open transfer; where none is open, never
abbrev pub ContextIs : Open → (named context : ℕ) → Type 0
ContextIs none named context = ⊥
ContextIs (by own host given bytes) named context = (named ≡ own) × (context ≡ given)

-- A Start, of whichever module, comes where no transfer is open. A Send has the open transfer's module and context, and goes on where the last one stopped. A
-- Finish has its module and context.
abbrev pub InOrder : Open → Kind → Type 0
InOrder now (Started named host context) = now ≡ none
InOrder now (Sent named host context offset piece) = ContextIs now named context × (offset ≡ length (bytes_so_far now))
InOrder now (Finished named host context flag) = ContextIs now named context
InOrder now Ticked = Unit {0}
InOrder now (Powered named) = Unit {0}
InOrder now Other = Unit {0}

-- which transfer is open after an exchange
abbrev pub open_next : Open → Exchange → Open
open_next now x = open_after now (kind_of x)

-- every exchange comes in order
abbrev pub AllInOrder : Open → History → Type 0
AllInOrder now h = Throughout open_next (λ o x. InOrder o (kind_of x)) now h

-- the host is the one that started the open transfer; where none is open, never
abbrev pub StarterIs : Open → (host : ℕ) → Type 0
StarterIs none host = ⊥
StarterIs (by named starter given bytes) host = host ≡ starter

-- A Send or a Finish is by the host that started the open transfer.
abbrev pub ByStarter : Open → Kind → Type 0
ByStarter now (Started named host context) = Unit {0}
ByStarter now (Sent named host context offset piece) = StarterIs now host
ByStarter now (Finished named host context flag) = StarterIs now host
ByStarter now Ticked = Unit {0}
ByStarter now (Powered named) = Unit {0}
ByStarter now Other = Unit {0}

-- every Send and every Finish of the history is
abbrev pub AllByStarter : Open → History → Type 0
AllByStarter now h = Throughout open_next (λ o x. ByStarter o (kind_of x)) now h
