-- Document 01, "A firmware transfer": Get FW Info, Start, Send, Finish, Query, the tick and the power cycle.
-- Assumes nothing.
use Rattle.std.specs.Prelude.{ℕ, ◌+◌, ◌-◌, ◌*◌}
use mathlib.Core.{Bool.{Bool, not, ◌&&◌, ◌||◌}, List.{List, [], ◌∷◌, ◌++◌}}
use Rattle.std.specs.Prelude.{length, take, drop}
use Rattle.std.specs.Prelude.{if◌then◌else◌}
use Rattle.rules.specs.Tests.{◌<?◌, ◌=?◌}
use Rattle.rules.specs.Bytes.{le, number_at, zeros, zeros?, splice}
use Rattle.rules.specs.Numbers.{area_size, longest_piece, verification, tick_microseconds, last_context}
use Rattle.rules.specs.With.{◌with_phase◌, ◌with_current◌, ◌with_received◌, ◌with_ticks◌, ◌with_running◌, ◌with_staged◌, ◌with_reason◌, ◌with_faulty◌}
use Rattle.rules.specs.Record.{◌is◌, current, live}
use Rattle.rules.specs.Refusals.{Check, ◌gives◌}
use Rattle.rules.specs.Fault.{Image, reason_number, image_of}
use Rattle.rules.specs.declared.{Refusal.TheVariants.Status}
use Rattle.std.specs.Prelude.{Ok, Err}
use Rattle.rules.specs.declared.{Phase.TheVariants.{Idle, Receiving, Verifying, Staged, Failed}, Transfer.Transfer}

pub data TransferCall : Type 0 where
  GetFwInfo : TransferCall
  Start : TransferCall
  Send : (context offset size : ℕ) (piece : List ℕ) → TransferCall
  Finish : (flag : ℕ) (reserved : List ℕ) (context : ℕ) → TransferCall
  Query : (context : ℕ) → TransferCall

-- "Get FW Info after the status: 16,384 (4 bytes); 512 (4); 1,000 (4); 8,000 (4); capability 0 (1); zeros (3); interface version 1 (4); running version
-- (8); staged version (8)."
abbrev pub fw_info : Transfer → List ℕ
fw_info t =
    le 4 area_size
    ++ le 4 longest_piece
    ++ le 4 tick_microseconds
    ++ le 4 (verification * tick_microseconds)
    ++ le 1 0
    ++ zeros 3
    ++ le 4 1
    ++ le 8 t.running
    ++ le 8 t.staged

-- "Start. Receiving or Verifying: 7/1. Staged: 7/2. Every context given out: 8." Document 02, T-09: "area busy is status 8, after 7/1 and 7/2 and before contexts
-- used up." How many contexts are given out, and whether the area is taken, is the cabinet's to say.
abbrev pub start_checks : Transfer → (given : ℕ) (taken : Bool) → List Check
start_checks t given taken =
    (t.phase is Receiving || t.phase is Verifying gives Status 7 1)
    ∷ (t.phase is Staged gives Status 7 2)
    ∷ (taken gives Status 8 0)
    ∷ (given =? last_context gives Status 8 0)
    ∷ []

-- document 02, T-03: "Start and power cycle clear both", the reason and the record number of a fault
abbrev pub without_fault : Transfer → Transfer
without_fault t = t with_reason 0 with_faulty 0

-- "Else the next number is given, received is 0, phase Receiving;" "Numbers .. are never given again": `NeverAgain` in Demand3.antt says it of histories.
abbrev pub start_change : Transfer → (given : ℕ) → Transfer
start_change t given = without_fault (t with_current (given + 1) with_received 0 with_phase Receiving)

-- "the answer carries the context."
abbrev pub start_answer : (given : ℕ) → List ℕ
start_answer given = le 4 (given + 1)

-- "Send: context (4), offset (4), length (4), piece." "The piece starts at byte 12 of the request;"
abbrev pub send_of : (request : List ℕ) → TransferCall
send_of request = Send (number_at 4 0 request) (number_at 4 4 request) (number_at 4 8 request) (drop 12 request)

-- "3 if .. the length differs from what follows, is 0 or over 512, or offset plus length (as exact numbers) is over 16,384. Then 7/1 unless Receiving with
-- this context. Then 3 unless offset equals received."
abbrev pub send_checks : Transfer → (context offset size : ℕ) (piece : List ℕ) → List Check
send_checks t context offset size piece =
    (not (size =? length piece) || size =? 0 || longest_piece <? size || area_size <? offset + size gives Status 3 0)
    ∷ (not (t.phase is Receiving && context =? current t) gives Status 7 1)
    ∷ (not (offset =? t.received) gives Status 3 0)
    ∷ []

-- The piece counts as received (docs/DECISIONS.md, A1).
abbrev pub send_change : Transfer → (size : ℕ) → Transfer
send_change t size = t with_received (t.received + size)

-- "it goes into the area at the offset, and every other area byte stays."
abbrev pub send_area : (offset : ℕ) (piece area : List ℕ) → List ℕ
send_area offset piece area = splice offset piece area

-- "Finish: flag (1), reserved (3), context (4)."
abbrev pub finish_of : (request : List ℕ) → TransferCall
finish_of request = Finish (number_at 1 0 request) (take 3 (drop 1 request)) (number_at 4 4 request)

-- Document 02, T-05: "A Finish with a nonzero reserved byte .. is refused. Refusals: status 3, in the place of each function's first field check."
-- It replaces document 01's "Reserved bits and bytes of a request are read past", but for function 0's request (docs/DECISIONS.md, B21, B22).
-- Then "Flag over 1: 3. Context not live: 7/1. Phase not Receiving: 7/2."
abbrev pub finish_checks : Transfer → (flag : ℕ) (reserved : List ℕ) (context : ℕ) → List Check
finish_checks t flag reserved context =
    (not (zeros? reserved) gives Status 3 0)
    ∷ (1 <? flag gives Status 3 0)
    ∷ (not (live t context) gives Status 7 1)
    ∷ (not (t.phase is Receiving) gives Status 7 2)
    ∷ []

-- "Flag 0: Verifying, 8 ticks left. Flag 1 aborts: Idle, received 0, status 0."
abbrev pub finish_change : Transfer → (flag : ℕ) → Transfer
finish_change t flag =
    if flag =? 0 then t with_phase Verifying with_ticks verification else (t with_phase Idle with_received 0)

-- "Query: context."
abbrev pub query_of : (request : List ℕ) → TransferCall
query_of request = Query (number_at 4 0 request)

-- "Not live: 7/1. Receiving: 7/4. Verifying: 7/2. Failed: 7/3. Staged: .. 6 if that is 0." In the last row only Staged is left.
abbrev pub query_checks : Transfer → (context : ℕ) → List Check
query_checks t context =
    (not (live t context) gives Status 7 1)
    ∷ (t.phase is Receiving gives Status 7 4)
    ∷ (t.phase is Verifying gives Status 7 2)
    ∷ (t.phase is Failed gives Status 7 3)
    ∷ (t.staged =? 0 gives Status 6 0)
    ∷ []

-- "Staged: staged version (8)"
abbrev pub query_answer : Transfer → List ℕ
query_answer t = le 8 t.staged

-- The five calls together: their checks; their answers after the status; what they change ("Query changes nothing."), how many contexts are given out then, and the
-- area.
abbrev pub transfer_checks : Transfer → (given : ℕ) (taken : Bool) → TransferCall → List Check
transfer_checks t given taken GetFwInfo = []
transfer_checks t given taken Start = start_checks t given taken
transfer_checks t given taken (Send context offset size piece) = send_checks t context offset size piece
transfer_checks t given taken (Finish flag reserved context) = finish_checks t flag reserved context
transfer_checks t given taken (Query context) = query_checks t context

abbrev pub transfer_answer : Transfer → (given : ℕ) → TransferCall → List ℕ
transfer_answer t given GetFwInfo = fw_info t
transfer_answer t given Start = start_answer given
transfer_answer t given (Send context offset size piece) = []
transfer_answer t given (Finish flag reserved context) = []
transfer_answer t given (Query context) = query_answer t

abbrev pub transfer_change : Transfer → (given : ℕ) → TransferCall → Transfer
transfer_change t given GetFwInfo = t
transfer_change t given Start = start_change t given
transfer_change t given (Send context offset size piece) = send_change t size
transfer_change t given (Finish flag reserved context) = finish_change t flag
transfer_change t given (Query context) = t

-- "the next number is given": to a Start, and to nothing else
abbrev pub given_after : (given : ℕ) → TransferCall → ℕ
given_after given GetFwInfo = given
given_after given Start = given + 1
given_after given (Send context offset size piece) = given
given_after given (Finish flag reserved context) = given
given_after given (Query context) = given

-- "Start .. The area's bytes stay."
abbrev pub transfer_area : TransferCall → (area : List ℕ) → List ℕ
transfer_area GetFwInfo area = area
transfer_area Start area = area
transfer_area (Send context offset size piece) area = send_area offset piece area
transfer_area (Finish flag reserved context) area = area
transfer_area (Query context) area = area

-- "the received bytes"
abbrev pub received_bytes : Transfer → (area : List ℕ) → List ℕ
received_bytes t area = take t.received area

-- "With 1 [tick left]: ticks left 0, and Staged with the image's version if the received bytes are a good image, else Failed."
-- Document 02, T-03: "The tick keeps reason and record number in Failed".
abbrev pub after_verifying : Transfer → Image → Transfer
after_verifying t (Ok version) = t with_ticks 0 with_phase Staged with_staged version
after_verifying t (Err fault) = t with_ticks 0 with_phase Failed with_reason (reason_number fault.reason) with_faulty fault.number

-- "Tick. .. In Verifying with more than 1 tick left: one less." "Other phases: no change."
abbrev pub tick_change : Transfer → (area : List ℕ) → Transfer
tick_change t area =
    if not (t.phase is Verifying) then t
    else if 1 <? t.ticks then t with_ticks (t.ticks - 1)
    else after_verifying t (image_of (received_bytes t area))

-- "Power cycle. From Staged the staged version becomes the running one."
abbrev pub running_after : Transfer → ℕ
running_after t = if t.phase is Staged then t.staged else t.running

-- "Then in every case: Idle, received 0, ticks 0, staged version 0"; "Contexts .. stay."
abbrev pub transfer_power : Transfer → Transfer
transfer_power t = without_fault (t with_running (running_after t) with_phase Idle with_received 0 with_ticks 0 with_staged 0)
