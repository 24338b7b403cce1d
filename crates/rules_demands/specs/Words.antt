-- The words of demand 3 written out: what an exchange is, by its function's index and its bytes; what remains; Sends and their pieces; ticks and power cycles;
-- the history that events make; and a test for honest hosts.
-- Assumes nothing.
use Rattle.std.specs.Prelude.{ℕ, ◌+◌}
use mathlib.Core.{Bool.{Bool, true, false, ◌&&◌, ◌||◌}, List.{List, [], ◌∷◌, ◌++◌}}
use Rattle.std.specs.Prelude.{length, drop}
use Rattle.std.specs.Prelude.{if◌then◌else◌}
use Rattle.rules.specs.Tests.{◌≤?◌, ◌=?◌, ◌implies◌}
use Rattle.rules.specs.Bytes.{number_at}
use Rattle.rules.specs.Record.{Whole}
use Rattle.rules.specs.Cabinet.{Event, call, tick, power, reading, step}
use Rattle.rules.specs.Transfers.{Exchange, History, Kind, Started, Sent, Finished, Ticked, Powered, Other}
use Rattle.rules.specs.declared.{Refusal.TheVariants.{R, Status}}
use Rattle.rules.specs.Refusals.{Verdict}
use Rattle.std.specs.Prelude.{Ok, Err}

-- What an exchange is to the transfers: a module's accepted call of function 13, 14 or 15, by its bytes; a tick; a module's power cycle; or none of these.
abbrev pub accepted_as : (named host index : ℕ) (request buffer : List ℕ) → Kind
accepted_as named host index request buffer =
    if index =? 13 then Started named host (number_at 4 4 buffer)
    else if index =? 14 then Sent named host (number_at 4 0 request) (number_at 4 4 request) (drop 12 request)
    else if index =? 15 then Finished named host (number_at 4 4 request) (number_at 1 0 request)
    else Other

abbrev pub answered_as : Event → Verdict → (buffer : List ℕ) → Kind
answered_as (call host named revision index request lent) (Ok tt) buffer = accepted_as named host index request buffer
answered_as (call host named revision index request lent) (Err refusal) buffer = Other
answered_as tick verdict buffer = Ticked
answered_as (power named) verdict buffer = Powered named
answered_as (reading named new) verdict buffer = Other

abbrev pub what : Exchange → Kind
what x = answered_as x.event x.got.reply.verdict x.got.buffer

-- what remains: accepted calls and readings, ticks and power cycles, and wrong passphrases
abbrev pub stays : Verdict → Bool
stays (Ok tt) = true
stays (Err (R number)) = false
stays (Err (Status status ext)) = status =? 11

abbrev pub remaining : History → History
remaining [] = []
remaining (x ∷ h) = if stays x.got.reply.verdict then x ∷ remaining h else remaining h

-- a Send with this context
abbrev pub send_with : (context : ℕ) → Kind → Bool
send_with context (Started named host c) = false
send_with context (Sent named host c offset piece) = c =? context
send_with context (Finished named host c flag) = false
send_with context Ticked = false
send_with context (Powered named) = false
send_with context Other = false

-- the Sends with this context, and all the others
abbrev pub sends_with : (context : ℕ) → History → History
sends_with context [] = []
sends_with context (x ∷ h) = if send_with context (what x) then x ∷ sends_with context h else sends_with context h

abbrev pub others_than : (context : ℕ) → History → History
others_than context [] = []
others_than context (x ∷ h) = if send_with context (what x) then others_than context h else x ∷ others_than context h

-- the bytes that Sends carry, joined
abbrev pub bytes_of : Kind → List ℕ
bytes_of (Started named host c) = []
bytes_of (Sent named host c offset piece) = piece
bytes_of (Finished named host c flag) = []
bytes_of Ticked = []
bytes_of (Powered named) = []
bytes_of Other = []

abbrev pub joined : History → List ℕ
joined [] = []
joined (x ∷ h) = bytes_of (what x) ++ joined h

-- how many ticks, and how many power cycles of a module
abbrev pub one_for_tick : Event → ℕ
one_for_tick (call host named revision index request lent) = 0
one_for_tick tick = 1
one_for_tick (power named) = 0
one_for_tick (reading named new) = 0

abbrev pub ticks : History → ℕ
ticks [] = 0
ticks (x ∷ h) = one_for_tick x.event + ticks h

abbrev pub one_for_power : (own : ℕ) → Event → ℕ
one_for_power own (call host named revision index request lent) = 0
one_for_power own tick = 0
one_for_power own (power named) = if named =? own then 1 else 0
one_for_power own (reading named new) = 0

abbrev pub powers : (own : ℕ) → History → ℕ
powers own [] = 0
powers own (x ∷ h) = one_for_power own x.event + powers own h

-- the events of a history; the cabinet after events; and the history that they make
abbrev pub events_of : History → List Event
events_of [] = []
events_of (x ∷ h) = x.event ∷ events_of h

abbrev pub comes_to : Whole → List Event → Whole
comes_to m [] = m
comes_to m (event ∷ events) = comes_to (step m event).after events

abbrev pub answers_to : Whole → List Event → History
answers_to m [] = []
answers_to m (event ∷ events) =
    record { event = event; got = record { reply = (step m event).reply; buffer = (step m event).answer } }
    ∷ answers_to (step m event).after events

-- A test for honest hosts. A host was answered a context by one of its Starts; a Send, a Query or a Finish that is long enough carries one.
abbrev pub answered_it : (host context : ℕ) → Kind → Bool
answered_it host context (Started named to given) = to =? host && given =? context
answered_it host context (Sent named sender given offset piece) = false
answered_it host context (Finished named sender given flag) = false
answered_it host context Ticked = false
answered_it host context (Powered named) = false
answered_it host context Other = false

abbrev pub answered_to : (host context : ℕ) → (past : History) → Bool
answered_to host context [] = false
answered_to host context (x ∷ past) = answered_it host context (what x) || answered_to host context past

abbrev pub uses_own : (past : History) → Event → Bool
uses_own past (call host named revision index request lent) =
    (index =? 14 || index =? 16 implies (4 ≤? length request implies answered_to host (number_at 4 0 request) past))
    && (index =? 15 implies (8 ≤? length request implies answered_to host (number_at 4 4 request) past))
uses_own past tick = true
uses_own past (power named) = true
uses_own past (reading named new) = true

abbrev pub honest_after : (past h : History) → Bool
honest_after past [] = true
honest_after past (x ∷ h) = uses_own past x.event && honest_after (x ∷ past) h

abbrev pub honest? : History → Bool
honest? h = honest_after [] h
