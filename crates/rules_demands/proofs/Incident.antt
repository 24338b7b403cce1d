-- The incident, computed: the recorder's own updater and the technician's laptop load firmware in the same hour, both honest. Demand 3 is not empty.
-- Assumes nothing.
use Prim.Native.Nat.{ℕ, ◌+◌}
use mathlib.Core.{Path.{◌≡◌, refl}, List.{List, [], ◌∷◌, ◌++◌, map}}
use native.Mathlib.Omega.{arith}
use lib.ListN.{length, take, drop, replicate, length-replicate}
use Rattle.rules.{specs.Bytes.{le, zeros, zeros?}, specs.Numbers.{area_size, answer_room}}
use Rattle.rules.{specs.Record.{phase_number, possible, possible_transfer, possible_security, possible_thresholds, possible_reading, possible_parts, possible_trips, possible_cabinet, Whole}, specs.Refusals.verdict}
use Rattle.rules.{specs.Table.{row_of, fits?}, specs.Image.sum_of_words, specs.Fault.{record_fault, records_fault, first_fault, image_of}}
use Rattle.rules.{specs.Cabinet.{Result, Event, call, tick, power, reading, step, call_result, tick_result, power_result, reading_result}, specs.Health.{new_reading, above, trips}, specs.Replay.{printed_status, printed_ext}}
use Rattle.rules.{specs.History.history_of, specs.Transfers.{machine, Exchange}, specs.Moves.rearranged, specs.Hosts.Honest}
use Rattle.rules.{specs.Demand3.{fresh_with, struck, EachFromOneHost, Demand3Of}, proofs.histories.Demand3.demand_3}
use Rattle.rules_demands.proofs.Checked.{checked}

abbrev recorder : ℕ
recorder = 1

abbrev laptop : ℕ
laptop = 2

-- each host lends a buffer of its own
abbrev ask : (host index : ℕ) (request : List ℕ) → Event
ask host index request = call host 0 2 index request (replicate (answer_room + host) host)

abbrev start : (host : ℕ) → Event
start host = ask host 13 []

abbrev send : (host context offset : ℕ) (piece : List ℕ) → Event
send host context offset piece = ask host 14 (le 4 context ++ le 4 offset ++ le 4 (length piece) ++ piece)

abbrev finish : (host context : ℕ) → Event
finish host context = ask host 15 (zeros 4 ++ le 4 context)

-- an image of one record, version 2
abbrev image : List ℕ
image = le 2 0 ++ le 2 1 ++ le 8 2 ++ zeros 112 ++ le 4 65538

-- The laptop comes while the recorder is loading: its Starts are refused, so it has no context, and nothing that it sends is accepted.
abbrev same_hour : List Event
same_hour =
    start recorder
    ∷ start laptop
    ∷ send recorder 1 0 (take 64 image)
    ∷ ask laptop 14 (1 ∷ 0 ∷ [])
    ∷ ask laptop 12 []
    ∷ send recorder 1 64 (drop 64 image)
    ∷ start laptop
    ∷ finish recorder 1
    ∷ start laptop
    ∷ tick ∷ tick ∷ tick ∷ tick ∷ tick ∷ tick ∷ tick
    ∷ []

-- the eighth tick; then the laptop asks once more, the recorder asks for the version, and the module is restarted
abbrev restart : List Event
restart = tick ∷ start laptop ∷ ask recorder 16 (le 4 1) ∷ power 0 ∷ ask laptop 12 [] ∷ []

abbrev new : Whole
new = fresh_with (zeros area_size)

-- what an event comes to: its status and extended number; then the phase's number, the staged version and the running one
abbrev row : Result → List ℕ
row result =
    printed_status result.reply.verdict
    ∷ printed_ext result.reply.verdict
    ∷ phase_number result.after.cabinet.first.transfer.phase
    ∷ result.after.cabinet.first.transfer.staged
    ∷ result.after.cabinet.first.transfer.running
    ∷ []

abbrev told : Whole → List Event → List (List ℕ)
told m [] = []
told m (event ∷ events) = row (step m event) ∷ told (step m event).after events

-- Every Start of the laptop is refused, one image is staged, by the eighth tick, and after the restart it is the running one.
pub comes_to_law : told new (same_hour ++ restart)
    -- the recorder's Start: Receiving
    ≡ (0 ∷ 0 ∷ 1 ∷ 0 ∷ 1 ∷ [])
    -- the laptop's Start: 7/1
    ∷ (7 ∷ 1 ∷ 1 ∷ 0 ∷ 1 ∷ [])
    -- the recorder's first Send
    ∷ (0 ∷ 0 ∷ 1 ∷ 0 ∷ 1 ∷ [])
    -- the laptop's Send, too short to carry a context: 3
    ∷ (3 ∷ 0 ∷ 1 ∷ 0 ∷ 1 ∷ [])
    -- the laptop's Get FW Info
    ∷ (0 ∷ 0 ∷ 1 ∷ 0 ∷ 1 ∷ [])
    -- the recorder's second Send
    ∷ (0 ∷ 0 ∷ 1 ∷ 0 ∷ 1 ∷ [])
    -- the laptop's Start: 7/1
    ∷ (7 ∷ 1 ∷ 1 ∷ 0 ∷ 1 ∷ [])
    -- the recorder's Finish: Verifying
    ∷ (0 ∷ 0 ∷ 2 ∷ 0 ∷ 1 ∷ [])
    -- the laptop's Start: 7/1
    ∷ (7 ∷ 1 ∷ 2 ∷ 0 ∷ 1 ∷ [])
    -- seven ticks
    ∷ (0 ∷ 0 ∷ 2 ∷ 0 ∷ 1 ∷ [])
    ∷ (0 ∷ 0 ∷ 2 ∷ 0 ∷ 1 ∷ [])
    ∷ (0 ∷ 0 ∷ 2 ∷ 0 ∷ 1 ∷ [])
    ∷ (0 ∷ 0 ∷ 2 ∷ 0 ∷ 1 ∷ [])
    ∷ (0 ∷ 0 ∷ 2 ∷ 0 ∷ 1 ∷ [])
    ∷ (0 ∷ 0 ∷ 2 ∷ 0 ∷ 1 ∷ [])
    ∷ (0 ∷ 0 ∷ 2 ∷ 0 ∷ 1 ∷ [])
    -- the eighth: Staged, version 2
    ∷ (0 ∷ 0 ∷ 3 ∷ 2 ∷ 1 ∷ [])
    -- the laptop's Start: 7/2
    ∷ (7 ∷ 2 ∷ 3 ∷ 2 ∷ 1 ∷ [])
    -- the recorder's Query
    ∷ (0 ∷ 0 ∷ 3 ∷ 2 ∷ 1 ∷ [])
    -- the power cycle: Idle, version 2 running
    ∷ (0 ∷ 0 ∷ 0 ∷ 0 ∷ 2 ∷ [])
    -- the laptop's Get FW Info
    ∷ (0 ∷ 0 ∷ 0 ∷ 0 ∷ 2 ∷ [])
    ∷ []
unfolding zeros? possible possible_transfer possible_security possible_thresholds possible_reading possible_parts possible_trips possible_cabinet verdict row_of fits? sum_of_words record_fault records_fault first_fault image_of call_result tick_result power_result above trips
comes_to_law = refl

-- who called which function, in the order of the rearranged history: the laptop's Get FW Info goes before the recorder's Start
abbrev caller : Event → ℕ × ℕ
caller (call host named revision index request answer) = (host, index)
caller tick = (0, 0)
caller (power named) = (0, 1)
caller (reading named new) = (0, 2)

pub moved : map (λ (x : Exchange). caller x.event) (rearranged (struck (history_of machine new same_hour)))
    ≡ (2, 12) ∷ (1, 13) ∷ (1, 14) ∷ (1, 14) ∷ (1, 15) ∷ (0, 0) ∷ (0, 0) ∷ (0, 0) ∷ (0, 0) ∷ (0, 0) ∷ (0, 0) ∷ (0, 0) ∷ []
unfolding zeros? possible possible_transfer possible_security possible_thresholds possible_reading possible_parts possible_trips possible_cabinet verdict row_of fits? sum_of_words record_fault records_fault first_fault image_of call_result tick_result power_result above trips
moved = refl

-- Document 02, T-04: "Demand 3 lets readings move like other events": one that comes between goes before the Start, and one that is refused is struck out
abbrev with_readings : List Event
with_readings =
    start recorder
    ∷ send recorder 1 0 (take 64 image)
    ∷ reading 0 (new_reading 90 0x0500 0x8001)
    ∷ reading 0 (new_reading 101 0x0500 0x8001)
    ∷ send recorder 1 64 (drop 64 image)
    ∷ finish recorder 1
    ∷ []

pub moved_reading : map (λ (x : Exchange). caller x.event) (rearranged (struck (history_of machine new with_readings)))
    ≡ (0, 2) ∷ (1, 13) ∷ (1, 14) ∷ (1, 14) ∷ (1, 15) ∷ []
unfolding zeros? possible possible_transfer possible_security possible_thresholds possible_reading possible_parts possible_trips possible_cabinet verdict row_of fits? call_result reading_result above trips
moved_reading = refl

-- Both hosts are honest: the recorder uses the context that its Start answered, the laptop uses none.
pub honest : Honest (history_of machine new (same_hour ++ restart))
unfolding zeros? possible possible_transfer possible_security possible_thresholds possible_reading possible_parts possible_trips possible_cabinet verdict row_of fits? sum_of_words record_fault records_fault first_fault image_of call_result tick_result power_result above trips
honest = (checked (history_of machine new (same_hour ++ restart))).0 refl

-- so all of demand 3 holds of it
pub as_demanded : Demand3Of new (history_of machine new (same_hour ++ restart))
as_demanded = demand_3 (zeros area_size) (length-replicate {A = ℕ} area_size 0) (same_hour ++ restart) honest

-- Honest hosts are needed, and for "each from one host" alone: a laptop that uses the recorder's context is served, and the two send one image.
abbrev not_honest : List Event
not_honest = start recorder ∷ send laptop 1 0 (take 64 image) ∷ []

pub needed : EachFromOneHost (struck (history_of machine new not_honest)) → ⊥
unfolding zeros? possible possible_transfer possible_security possible_thresholds possible_reading possible_parts possible_trips possible_cabinet verdict row_of fits? call_result above trips
needed t = let same : laptop ≡ recorder = t.1.0 in omega arith

-- The second incident: the laptop updates module 1 while the recorder's transfer to module 0 is open, is answered 8, and comes again when that image is staged. Both are honest.
abbrev ask_1 : (host index : ℕ) (request : List ℕ) → Event
ask_1 host index request = call host 1 2 index request (replicate (answer_room + host) host)

abbrev eight_ticks : List Event
eight_ticks = tick ∷ tick ∷ tick ∷ tick ∷ tick ∷ tick ∷ tick ∷ tick ∷ []

abbrev two_modules : List Event
two_modules =
    start recorder
    ∷ ask_1 laptop 13 []
    ∷ send recorder 1 0 (take 64 image)
    ∷ ask_1 laptop 12 []
    ∷ power 1
    ∷ send recorder 1 64 (drop 64 image)
    ∷ finish recorder 1
    ∷ ask_1 laptop 13 []
    ∷ eight_ticks
    ++ (ask_1 laptop 13 []
    ∷ ask_1 laptop 14 (le 4 2 ++ le 4 0 ++ le 4 128 ++ image)
    ∷ ask_1 laptop 15 (zeros 4 ++ le 4 2)
    ∷ [])
    ++ eight_ticks
    ++ (power 0 ∷ power 1 ∷ [])

-- what an event comes to: its status; then each module's phase number, and the running versions
abbrev both_rows : Result → List ℕ
both_rows result =
    printed_status result.reply.verdict
    ∷ phase_number result.after.cabinet.first.transfer.phase
    ∷ phase_number result.after.cabinet.second.transfer.phase
    ∷ result.after.cabinet.first.transfer.running
    ∷ result.after.cabinet.second.transfer.running
    ∷ []

abbrev told_both : Whole → List Event → List (List ℕ)
told_both m [] = []
told_both m (event ∷ events) = both_rows (step m event) ∷ told_both (step m event).after events

pub second_incident : told_both new two_modules
    -- the recorder's Start of module 0; the laptop's of module 1: 8
    ≡ (0 ∷ 1 ∷ 0 ∷ 1 ∷ 1 ∷ [])
    ∷ (8 ∷ 1 ∷ 0 ∷ 1 ∷ 1 ∷ [])
    -- the recorder's first Send; the laptop's Get FW Info and its power cycle of module 1; the second Send, and the Finish
    ∷ (0 ∷ 1 ∷ 0 ∷ 1 ∷ 1 ∷ [])
    ∷ (0 ∷ 1 ∷ 0 ∷ 1 ∷ 1 ∷ [])
    ∷ (0 ∷ 1 ∷ 0 ∷ 1 ∷ 1 ∷ [])
    ∷ (0 ∷ 1 ∷ 0 ∷ 1 ∷ 1 ∷ [])
    ∷ (0 ∷ 2 ∷ 0 ∷ 1 ∷ 1 ∷ [])
    -- while it is verified: 8 again
    ∷ (8 ∷ 2 ∷ 0 ∷ 1 ∷ 1 ∷ [])
    -- eight ticks: module 0 is Staged
    ∷ (0 ∷ 2 ∷ 0 ∷ 1 ∷ 1 ∷ [])
    ∷ (0 ∷ 2 ∷ 0 ∷ 1 ∷ 1 ∷ [])
    ∷ (0 ∷ 2 ∷ 0 ∷ 1 ∷ 1 ∷ [])
    ∷ (0 ∷ 2 ∷ 0 ∷ 1 ∷ 1 ∷ [])
    ∷ (0 ∷ 2 ∷ 0 ∷ 1 ∷ 1 ∷ [])
    ∷ (0 ∷ 2 ∷ 0 ∷ 1 ∷ 1 ∷ [])
    ∷ (0 ∷ 2 ∷ 0 ∷ 1 ∷ 1 ∷ [])
    ∷ (0 ∷ 3 ∷ 0 ∷ 1 ∷ 1 ∷ [])
    -- the laptop comes again: its Start, its Send and its Finish
    ∷ (0 ∷ 3 ∷ 1 ∷ 1 ∷ 1 ∷ [])
    ∷ (0 ∷ 3 ∷ 1 ∷ 1 ∷ 1 ∷ [])
    ∷ (0 ∷ 3 ∷ 2 ∷ 1 ∷ 1 ∷ [])
    -- eight ticks: module 1 is Staged too
    ∷ (0 ∷ 3 ∷ 2 ∷ 1 ∷ 1 ∷ [])
    ∷ (0 ∷ 3 ∷ 2 ∷ 1 ∷ 1 ∷ [])
    ∷ (0 ∷ 3 ∷ 2 ∷ 1 ∷ 1 ∷ [])
    ∷ (0 ∷ 3 ∷ 2 ∷ 1 ∷ 1 ∷ [])
    ∷ (0 ∷ 3 ∷ 2 ∷ 1 ∷ 1 ∷ [])
    ∷ (0 ∷ 3 ∷ 2 ∷ 1 ∷ 1 ∷ [])
    ∷ (0 ∷ 3 ∷ 2 ∷ 1 ∷ 1 ∷ [])
    ∷ (0 ∷ 3 ∷ 3 ∷ 1 ∷ 1 ∷ [])
    -- each power cycle takes its own module's version over
    ∷ (0 ∷ 0 ∷ 3 ∷ 2 ∷ 1 ∷ [])
    ∷ (0 ∷ 0 ∷ 0 ∷ 2 ∷ 2 ∷ [])
    ∷ []
unfolding zeros? possible possible_transfer possible_security possible_thresholds possible_reading possible_parts possible_trips possible_cabinet verdict row_of fits? sum_of_words record_fault records_fault first_fault image_of call_result tick_result power_result above trips
second_incident = refl

-- in the rearranged history the laptop's Get FW Info and module 1's power cycle go before the recorder's Start; each transfer stands unbroken, the one after the other
abbrev which : Event → ℕ × ℕ
which (call host named revision index request answer) = (named, index)
which tick = (2, 0)
which (power named) = (named, 1)
which (reading named new) = (named, 2)

pub moved_too : map (λ (x : Exchange). which x.event) (take 7 (rearranged (struck (history_of machine new two_modules))))
    ≡ (1, 12) ∷ (1, 1) ∷ (0, 13) ∷ (0, 14) ∷ (0, 14) ∷ (0, 15) ∷ (2, 0) ∷ []
unfolding zeros? possible possible_transfer possible_security possible_thresholds possible_reading possible_parts possible_trips possible_cabinet verdict row_of fits? sum_of_words record_fault records_fault first_fault image_of call_result tick_result power_result above trips
moved_too = refl

pub honest_too : Honest (history_of machine new two_modules)
unfolding zeros? possible possible_transfer possible_security possible_thresholds possible_reading possible_parts possible_trips possible_cabinet verdict row_of fits? sum_of_words record_fault records_fault first_fault image_of call_result tick_result power_result above trips
honest_too = (checked (history_of machine new two_modules)).0 refl

pub as_demanded_too : Demand3Of new (history_of machine new two_modules)
as_demanded_too = demand_3 (zeros area_size) (length-replicate {A = ℕ} area_size 0) two_modules honest_too
