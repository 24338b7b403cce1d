-- Document 01, "Cases for the bench": those marked P, as rows of one list; and document 02, T-04: function 1 and readings; T-05: reserved means zero; T-09: two
-- modules. That every row holds is the one claim of proofs/page/Claim.antt.
-- Assumes nothing.
use Rattle.std.specs.Prelude.{ℕ, zero, suc, ◌+◌}
use mathlib.Core.{Bool.{Bool, true, false, not, ◌&&◌}, List.{List, [], ◌∷◌, ◌++◌}}
use Rattle.std.specs.Prelude.{length, drop, replicate}
use Rattle.std.specs.Prelude.{if◌then◌else◌}
use Rattle.rules.specs.Tests.{◌=?◌}
use Rattle.rules.specs.Bytes.{le, zeros, same?}
use Rattle.rules.specs.Numbers.{area_size}
use Rattle.rules.specs.With.{◌with_transfer◌, ◌with_phase◌, ◌with_current◌, ◌with_received◌}
use Rattle.rules.specs.Record.{◌is◌, fresh, Whole, whole_of}
use Rattle.rules.specs.Refusals.{refused?}
use Rattle.rules.specs.Health.{new_reading}
use Rattle.rules.specs.Cabinet.{Result, Event, call, tick, power, reading, step}
use Rattle.rules.specs.Replay.{replay_start}
use Rattle.rules.specs.declared.{Phase.TheVariants.{Receiving, Staged, Failed}, Refusal.TheVariants.{R, Status}, Reading.Reading, Device.Device}
use Rattle.rules.specs.Refusals.{Verdict}
use Rattle.std.specs.Prelude.{Ok, Err}

-- What a case does: it makes a call and expects these answer bytes, lets ticks pass or a module's power cycle, or brings a health reading, which is taken; or an event
-- gives this R number.
infix 68 ◌gets◌
pub data Deed : Type 0 where
  ◌gets◌ : Event → List ℕ → Deed
  passing : (ticks : ℕ) → Deed
  powering : (named : ℕ) → Deed
  taken : (named : ℕ) (new : Reading) → Deed
  gives_R : (number : ℕ) → Event → Deed

-- A row: the cabinet that the case begins with; what is done; and what the case says of record and area in the end.
pub record Case : Type 0 where
  pub from : Whole
  pub deeds : List Deed
  pub ends : Whole → Bool

-- Every call is lent 132 bytes of 255, so that an answer byte left unwritten, or one written past the answer, shows.
abbrev buffer : List ℕ
buffer = replicate 132 255

-- the answer is the one expected, of its length, and the buffer's other bytes are as they came
abbrev as_expected : Result → (expected : List ℕ) → Bool
as_expected result expected =
    (result.reply.length =? length expected) && same? result.answer (expected ++ drop (length expected) buffer)

abbrev after_ticks : ℕ → Whole → Whole
after_ticks zero w = w
after_ticks (suc ticks) w = after_ticks ticks (step w tick).after

-- the verdict is this R number
abbrev by_R : (number : ℕ) → Verdict → Bool
by_R number (Ok tt) = false
by_R number (Err (R given)) = given =? number
by_R number (Err (Status status ext)) = false

abbrev holds_from : Whole → List Deed → (Whole → Bool) → Bool
holds_from w [] ends = ends w
holds_from w ((event gets expected) ∷ deeds) ends = as_expected (step w event) expected && holds_from (step w event).after deeds ends
holds_from w (passing ticks ∷ deeds) ends = holds_from (after_ticks ticks w) deeds ends
holds_from w (powering named ∷ deeds) ends = holds_from (step w (power named)).after deeds ends
holds_from w (taken named new ∷ deeds) ends =
    not (refused? (step w (reading named new)).reply.verdict) && holds_from (step w (reading named new)).after deeds ends
holds_from w (gives_R number event ∷ deeds) ends = by_R number (step w event).reply.verdict && holds_from (step w event).after deeds ends

abbrev pub holds : Case → Bool
holds c = holds_from c.from c.deeds c.ends

-- the numbers of the rows that do not hold
abbrev pub failing : (number : ℕ) → List Case → List ℕ
failing number [] = []
failing number (c ∷ cases) = (if holds c then [] else number ∷ []) ++ failing (number + 1) cases

-- calls by host 1 to module 0 at revision 2, but where a revision or a module is named; a Send, a Finish and a Query with context 1
abbrev at_revision : (revision index : ℕ) (request : List ℕ) → Event
at_revision revision index request = call 1 0 revision index request buffer

abbrev ask_module : (named index : ℕ) (request : List ℕ) → Event
ask_module named index request = call 1 named 2 index request buffer

abbrev ask : (index : ℕ) (request : List ℕ) → Event
ask index request = at_revision 2 index request

abbrev start : Event
start = ask 13 []

abbrev send : (offset size : ℕ) (piece : List ℕ) → Event
send offset size piece = ask 14 (le 4 1 ++ le 4 offset ++ le 4 size ++ piece)

abbrev finish_with : (reserved : List ℕ) → Event
finish_with reserved = ask 15 (le 1 0 ++ reserved ++ le 4 1)

abbrev finish : Event
finish = finish_with (zeros 3)

abbrev query : Event
query = ask 16 (le 4 1)

abbrev set_passphrase : List ℕ → Event
set_passphrase new = ask 20 (zeros 32 ++ new)

abbrev disable : List ℕ → Event
disable current = ask 21 current

-- an answer that is a status alone, its bytes written out, so that `status_bytes` and the order of bytes are held to them
abbrev status : ℕ → List ℕ
status n = n ∷ 0 ∷ 0 ∷ 0 ∷ []

-- the answer of the first Start
abbrev started : List ℕ
started = status 0 ++ le 4 1

-- a module that has received so many bytes, in the transfer with context 1; a cabinet of which module 0 is such a one, with an area full of 7; and one of which
-- both are, which is not possible
abbrev received : ℕ → Device
received n = fresh with_transfer (fresh.transfer with_phase Receiving with_current 1 with_received n)

abbrev receiving : ℕ → Whole
receiving n = whole_of (record { contexts = 1; first = received n; second = fresh }) (replicate area_size 7)

abbrev both_receiving : Whole
both_receiving = whole_of (record { contexts = 1; first = received 0; second = received 0 }) (replicate area_size 7)

-- one record, version 1: number 0 of 1, the version, the payload, and the last bytes
abbrev one_record : (payload last : List ℕ) → List ℕ
one_record payload last = le 2 0 ++ le 2 1 ++ le 8 1 ++ payload ++ last

-- its whole transfer, which stages version 1
abbrev staging : List ℕ → List Deed
staging image =
    start gets started
    ∷ send 0 128 image gets status 0
    ∷ finish gets status 0
    ∷ passing 8
    ∷ query gets (status 0 ++ le 8 1)
    ∷ []

abbrev repeated : ℕ → Deed → List Deed
repeated zero deed = []
repeated (suc n) deed = deed ∷ repeated n deed

-- the first 20 bytes of function 1's answer, and the zeros after them
abbrev health : (first : List ℕ) → List ℕ
health first = first ++ zeros 112

-- what a case may say of the end
abbrev failed : Whole → Bool
failed w = w.cabinet.first.transfer.phase is Failed

abbrev staged_1 : Whole → Bool
staged_1 w = w.cabinet.first.transfer.phase is Staged && w.cabinet.first.transfer.staged =? 1

abbrev received_all : Whole → Bool
received_all w =
    w.cabinet.first.transfer.received =? 16384 && same? w.area (replicate 16380 7 ++ (1 ∷ 2 ∷ 3 ∷ 4 ∷ []))

-- no byte of a piece was taken: so many bytes are received, as before, and the area is full of 7
abbrev received_still : ℕ → Whole → Bool
received_still n w = w.cabinet.first.transfer.received =? n && same? w.area (replicate area_size 7)

-- both modules Staged, with versions 1 and 1
abbrev both_staged : Whole → Bool
both_staged w = w.cabinet.first.transfer.staged =? 1 && w.cabinet.second.transfer.staged =? 1

abbrev case_from : Whole → List Deed → (Whole → Bool) → Case
case_from from deeds ends = record { from = from; deeds = deeds; ends = ends }

-- a case that begins with two fresh modules and an area of zeros
abbrev case_to : List Deed → (Whole → Bool) → Case
case_to deeds ends = case_from replay_start deeds ends

-- one that says nothing of the end
abbrev case : List Deed → Case
case deeds = case_to deeds (λ w. true)

abbrev pub cases : List Case
cases =
    -- "function 0 at revisions 2, 1 and 3, as above." Document 02, T-04: "Function 0 gains bit 1 at both", 07 in the place of 05.
    case (at_revision 2 0 [] gets (0x07 ∷ 0xF0 ∷ 0xFB ∷ 0x00 ∷ []) ∷ [])
    ∷ case (at_revision 1 0 [] gets (0x07 ∷ 0x00 ∷ 0x00 ∷ 0x00 ∷ []) ∷ [])
    ∷ case (at_revision 3 0 [] gets (0x00 ∷ 0x00 ∷ 0x00 ∷ 0x00 ∷ []) ∷ [])
    -- "function 18, revision 2: status 1, 4 bytes."
    ∷ case (ask 18 [] gets status 1 ∷ [])
    -- "Send at 16,380, length 4, received 16,380: accepted; at 16,381: 3." The second also with 16,381 received, where the sum alone decides.
    ∷ case_from (receiving 16380) (send 16380 4 (1 ∷ 2 ∷ 3 ∷ 4 ∷ []) gets status 0 ∷ []) received_all
    ∷ case_from (receiving 16380) (send 16381 4 (1 ∷ 2 ∷ 3 ∷ 4 ∷ []) gets status 3 ∷ []) (received_still 16380)
    ∷ case_from (receiving 16381) (send 16381 4 (1 ∷ 2 ∷ 3 ∷ 4 ∷ []) gets status 3 ∷ []) (received_still 16381)
    -- "while Idle, offset 4,294,967,295, length 2, two piece bytes: 3, not 7/1."
    ∷ case (send 4294967295 2 (1 ∷ 2 ∷ []) gets status 3 ∷ [])
    -- "length 512 accepted, 513: 3; length 0: 3."
    ∷ case (start gets started ∷ send 0 512 (replicate 512 7) gets status 0 ∷ [])
    ∷ case (start gets started ∷ send 0 513 (replicate 513 7) gets status 3 ∷ [])
    ∷ case (start gets started ∷ send 0 0 [] gets status 3 ∷ [])
    -- "Finish with nothing received, 8 ticks: Failed, Query 7/3."
    ∷ case_to (start gets started ∷ finish gets status 0 ∷ passing 8 ∷ query gets (le 2 7 ++ le 2 3 ++ zeros 8) ∷ []) failed
    -- "one record, version 1, zero payload: last bytes 01 00 01 00; with bytes 12 to 15 FF: 00 00 01 00."
    ∷ case_to (staging (one_record (zeros 112) (0x01 ∷ 0x00 ∷ 0x01 ∷ 0x00 ∷ []))) staged_1
    ∷ case_to (staging (one_record (replicate 4 0xFF ++ zeros 108) (0x00 ∷ 0x00 ∷ 0x01 ∷ 0x00 ∷ []))) staged_1
    -- "ten wrong passphrases, then the right one: ten times 11, then 10." Here by Disable (docs/DECISIONS.md, A38).
    ∷ case
    (set_passphrase (replicate 32 9) gets status 0
    ∷ repeated 10 (disable (replicate 32 8) gets status 11)
    ++ (disable (replicate 32 9) gets status 10 ∷ []))
    -- document 02, T-04: function 1 on a fresh module, at revisions 2 and 1; its flags are 0000021Ah
    ∷ case
    (at_revision 2 1 [] gets health (0 ∷ 0 ∷ 0 ∷ 0 ∷ 0x1A ∷ 0x02 ∷ 0 ∷ 0 ∷ 0 ∷ 0 ∷ 0 ∷ 0 ∷ 0 ∷ 0 ∷ 0 ∷ 0 ∷ 0 ∷ 0 ∷ 0 ∷ 0 ∷ [])
    ∷ at_revision 1 1 [] gets health (0 ∷ 0 ∷ 0 ∷ 0 ∷ 0x1A ∷ 0x02 ∷ 0 ∷ 0 ∷ 0 ∷ 0 ∷ 0 ∷ 0 ∷ 0 ∷ 0 ∷ 0 ∷ 0 ∷ 0 ∷ 0 ∷ 0 ∷ 0 ∷ [])
    ∷ [])
    -- and with all three alarms tripped: spare 19 below 20; media 0501h above 0500h; controller 8000h, which is 0, above 8001h; none is while the alarms are
    -- off, nor what is at its threshold
    ∷ case
    (ask 17 (0x00 ∷ 0x00 ∷ 20 ∷ 0x00 ∷ 0x05 ∷ 0x01 ∷ 0x80 ∷ []) gets status 0
    ∷ taken 0 (new_reading 19 0x0501 0x8000)
    ∷ ask 1 [] gets health (0 ∷ 0 ∷ 0 ∷ 0 ∷ 0x1A ∷ 0x02 ∷ 0 ∷ 0 ∷ 0 ∷ 0 ∷ 0 ∷ 0 ∷ 0 ∷ 19 ∷ 0 ∷ 0x00 ∷ 0x01 ∷ 0x05 ∷ 0x00 ∷ 0x80 ∷ [])
    ∷ ask 17 (0x07 ∷ 0x00 ∷ 20 ∷ 0x00 ∷ 0x05 ∷ 0x01 ∷ 0x80 ∷ []) gets status 0
    ∷ ask 1 [] gets health (0 ∷ 0 ∷ 0 ∷ 0 ∷ 0x1A ∷ 0x02 ∷ 0 ∷ 0 ∷ 0 ∷ 0 ∷ 0 ∷ 0 ∷ 0 ∷ 19 ∷ 0 ∷ 0x07 ∷ 0x01 ∷ 0x05 ∷ 0x00 ∷ 0x80 ∷ [])
    ∷ taken 0 (new_reading 20 0x0500 0x8001)
    ∷ ask 1 [] gets health (0 ∷ 0 ∷ 0 ∷ 0 ∷ 0x1A ∷ 0x02 ∷ 0 ∷ 0 ∷ 0 ∷ 0 ∷ 0 ∷ 0 ∷ 0 ∷ 20 ∷ 0 ∷ 0x00 ∷ 0x00 ∷ 0x05 ∷ 0x01 ∷ 0x80 ∷ [])
    ∷ [])
    -- function 1 with a request byte: status 3, 132 bytes; at revision 3: status 1, 4 bytes
    ∷ case (ask 1 (0 ∷ []) gets (status 3 ++ zeros 128) ∷ at_revision 3 1 [] gets status 1 ∷ [])
    -- "8000h equals 0": the media's 8000h is not above 0000h, nor the controller's 0000h above 8000h; one above is, one below is not. "spare over 100 in a new
    -- reading is R4", and the last one stays; "power cycles keep the last one"
    ∷ case
    (ask 17 (0x06 ∷ 0x00 ∷ 0 ∷ 0x00 ∷ 0x00 ∷ 0x00 ∷ 0x80 ∷ []) gets status 0
    ∷ taken 0 (new_reading 100 0x8000 0x0000)
    ∷ ask 1 [] gets health (0 ∷ 0 ∷ 0 ∷ 0 ∷ 0x1A ∷ 0x02 ∷ 0 ∷ 0 ∷ 0 ∷ 0 ∷ 0 ∷ 0 ∷ 0 ∷ 100 ∷ 0 ∷ 0x00 ∷ 0x00 ∷ 0x80 ∷ 0x00 ∷ 0x00 ∷ [])
    ∷ taken 0 (new_reading 0 0x0001 0x8001)
    ∷ gives_R 4 (reading 0 (new_reading 101 0x0000 0x0000))
    ∷ powering 0
    ∷ ask 1 [] gets health (0 ∷ 0 ∷ 0 ∷ 0 ∷ 0x1A ∷ 0x02 ∷ 0 ∷ 0 ∷ 0 ∷ 0 ∷ 0 ∷ 0 ∷ 0 ∷ 0 ∷ 0 ∷ 0x02 ∷ 0x01 ∷ 0x00 ∷ 0x01 ∷ 0x80 ∷ [])
    ∷ [])
    -- document 02, T-05: a Finish with a nonzero reserved byte while Idle: 3, not 7/1; and each of the three while Receiving, where it stays
    ∷ case (finish_with (0x00 ∷ 0x00 ∷ 0x80 ∷ []) gets status 3 ∷ [])
    ∷ case
    (start gets started
    ∷ finish_with (0x01 ∷ 0x00 ∷ 0x00 ∷ []) gets status 3
    ∷ finish_with (0x00 ∷ 0x01 ∷ 0x00 ∷ []) gets status 3
    ∷ finish_with (0x00 ∷ 0x00 ∷ 0x01 ∷ []) gets status 3
    ∷ finish gets status 0
    ∷ [])
    -- and a Set Threshold with enable bit 3, and with bit 15: nothing is stored
    ∷ case
    (ask 17 (0x08 ∷ 0x00 ∷ 20 ∷ 0x00 ∷ 0x05 ∷ 0x01 ∷ 0x80 ∷ []) gets status 3
    ∷ ask 17 (0x00 ∷ 0x80 ∷ 20 ∷ 0x00 ∷ 0x05 ∷ 0x01 ∷ 0x80 ∷ []) gets status 3
    ∷ ask 2 [] gets zeros 12
    ∷ ask 17 (0x07 ∷ 0x00 ∷ 20 ∷ 0x00 ∷ 0x05 ∷ 0x01 ∷ 0x80 ∷ []) gets status 0
    ∷ [])
    -- document 02, T-09: "area busy is status 8, after 7/1 and 7/2": while module 0 is Receiving and while it is Verifying; "The area is free for the other as soon
    -- as neither is", and the numbers are shared
    ∷ case
    (start gets started
    ∷ start gets (le 2 7 ++ le 2 1 ++ zeros 4)
    ∷ ask_module 1 13 [] gets (status 8 ++ zeros 4)
    ∷ finish gets status 0
    ∷ passing 7
    ∷ ask_module 1 13 [] gets (status 8 ++ zeros 4)
    ∷ passing 1
    ∷ ask_module 1 13 [] gets (status 0 ++ le 4 2)
    ∷ start gets (status 8 ++ zeros 4)
    ∷ powering 0
    ∷ start gets (status 8 ++ zeros 4)
    ∷ powering 1
    ∷ start gets (status 0 ++ le 4 3)
    ∷ [])
    -- a Staged module answers 7/2 while the other has the area; each is staged by its own transfer, and a tick reaches both
    ∷ case_to
    (staging (one_record (zeros 112) (0x01 ∷ 0x00 ∷ 0x01 ∷ 0x00 ∷ []))
    ++ (ask_module 1 13 [] gets (status 0 ++ le 4 2)
    ∷ start gets (le 2 7 ++ le 2 2 ++ zeros 4)
    ∷ ask_module 1 14 (le 4 2 ++ le 4 0 ++ le 4 128 ++ one_record (zeros 112) (0x01 ∷ 0x00 ∷ 0x01 ∷ 0x00 ∷ [])) gets status 0
    ∷ ask_module 1 15 (zeros 4 ++ le 4 2) gets status 0
    ∷ passing 8
    ∷ ask_module 1 16 (le 4 2) gets (status 0 ++ le 8 1)
    ∷ query gets (status 0 ++ le 8 1)
    ∷ ask_module 1 16 (le 4 1) gets (le 2 7 ++ le 2 1 ++ zeros 8)
    ∷ []))
    both_staged
    -- "module over 1 is R5, before R3, for a power cycle or reading too"; two modules Receiving are R3, to a tick too
    ∷ case_from both_receiving
    (gives_R 5 (ask_module 2 12 [])
    ∷ gives_R 5 (power 2)
    ∷ gives_R 5 (reading 2 (new_reading 101 0x0000 0x0000))
    ∷ gives_R 3 (ask_module 1 12 [])
    ∷ gives_R 3 (power 1)
    ∷ gives_R 3 (reading 1 (new_reading 101 0x0000 0x0000))
    ∷ gives_R 3 tick
    ∷ [])
    (λ w. true)
    ∷ []
