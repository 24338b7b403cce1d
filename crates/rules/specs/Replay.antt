-- Document 01, "The replay program": the text that a log's replay prints, byte for byte. Every line, the last too, ends with a line feed
-- (docs/DECISIONS.md, A31).
-- Assumes nothing.
use Rattle.std.specs.Prelude.{ℕ, zero, suc, ◌+◌}
use Prim.Native.String.{String}
use mathlib.Core.{Bool.Bool, List.{List, [], ◌++◌}}
use Rattle.std.specs.Prelude.{if◌then◌else◌}
use Rattle.rules.specs.Tests.{◌=?◌}
use Rattle.rules.specs.Bytes.{zeros}
use Rattle.rules.specs.Text.{ascii, decimal, field}
use Rattle.rules.specs.Numbers.{area_size, answer_room}
use Rattle.rules.specs.Record.{◌is◌, fresh_cabinet, Whole, whole_of}
use Rattle.rules.specs.Cabinet.{Result, call_result, tick_result, power_result, reading_result}
use Rattle.rules.specs.Log.{entry_of, request_in, records_in, record_at, short_tail}
use Rattle.rules.specs.declared.{Phase.Phase, Phase.TheVariants.{Idle, Receiving, Verifying, Staged, Failed}, Transfer.Transfer, Device.Device, Cabinet.Cabinet, Refusal.TheVariants.{R, Status}}
use Rattle.rules.specs.declared.{Reply.Reply, Entry.Entry, Entry.TheVariants.{Call, Tick, Power, Health, Bad}}
use Rattle.rules.specs.Refusals.{Verdict}
use Rattle.std.specs.Prelude.{Ok, Err}

-- "Replay starts from a fresh module and an area of zeros": from two (document 02, T-09)
abbrev pub replay_start : Whole
replay_start = whole_of fresh_cabinet (zeros area_size)

-- a log record's call, lent an answer buffer of 132 zeros (A34)
abbrev pub replay_call : Whole → (named revision index : ℕ) (request : List ℕ) → Result
replay_call w named revision index request = call_result w named revision index request (zeros answer_room)

-- the cabinet after a log record
abbrev pub played : Whole → Entry → (request : List ℕ) → Whole
played w (Call named host revision index size) request = (replay_call w named revision index request).after
played w Tick request = (tick_result w).after
played w (Power named) request = (power_result w named).after
played w (Health named new) request = (reading_result w named new).after
played w Bad request = w

-- The two numbers of a call's line. A replay never gives an R number (A33), so that the two lines with R are never used.
abbrev pub printed_status : Verdict → ℕ
printed_status (Ok tt) = 0
printed_status (Err (R number)) = number
printed_status (Err (Status status ext)) = status

abbrev pub printed_ext : Verdict → ℕ
printed_ext (Ok tt) = 0
printed_ext (Err (R number)) = 0
printed_ext (Err (Status status ext)) = ext

-- a call's line: status, extended number, and the answer's length; "function 0 prints `call - - 4`"
abbrev pub call_line : (number index : ℕ) → Reply → List ℕ
call_line number index reply =
    if index =? 0 then field number " call - - " ++ field reply.length "\n"
    else (field number " call " ++ field (printed_status reply.verdict) " " ++ field (printed_ext reply.verdict) " " ++ field reply.length "\n")

-- the line of a log record. "A power cycle prints `power`, a bad record `bad`"; document 02, T-04: "the replay prints `health`"
abbrev pub entry_line : (number : ℕ) → Whole → Entry → (request : List ℕ) → List ℕ
entry_line number w (Call named host revision index size) request = call_line number index (replay_call w named revision index request).reply
entry_line number w Tick request = field number " tick\n"
entry_line number w (Power named) request = field number " power\n"
entry_line number w (Health named new) request = field number " health\n"
entry_line number w Bad request = field number " bad\n"

abbrev pub record_played : Whole → (bytes : List ℕ) → Whole
record_played w bytes = played w (entry_of bytes) (request_in bytes)

abbrev pub record_line : (number : ℕ) → Whole → (bytes : List ℕ) → List ℕ
record_line number w bytes = entry_line number w (entry_of bytes) (request_in bytes)

-- the cabinet after the first j records of a log
unfoldable pub whole_after : Whole → (log : List ℕ) (j : ℕ) → Whole
whole_after w log zero = w
whole_after w log (suc j) = record_played (whole_after w log j) (record_at log j)

-- the lines of the first j records of a log, the first of which has the number given: 0, but where a log is read part by part
unfoldable pub record_lines : (number : ℕ) → Whole → (log : List ℕ) (j : ℕ) → List ℕ
record_lines number w log zero = []
record_lines number w log (suc j) = record_lines number w log j ++ record_line (number + j) (whole_after w log j) (record_at log j)

-- "record kind status ext length"
abbrev pub heading : List ℕ
heading = ascii "record kind status ext length\n"

-- "3 short": a tail has the number after the last record's
abbrev pub tail_line : (number : ℕ) → Bool → List ℕ
tail_line number short = if short then field number " short\n" else []

-- "The last line is phase in lower case and contexts."
abbrev pub phase_name : Phase → String
phase_name Idle = "idle"
phase_name Receiving = "receiving"
phase_name Verifying = "verifying"
phase_name Staged = "staged"
phase_name Failed = "failed"

-- document 02, T-03: the reasons' words, by their numbers (B9)
abbrev pub reason_name : (reason : ℕ) → String
reason_name reason =
    if reason =? 1 then "size"
    else if reason =? 2 then "number"
    else if reason =? 3 then "count"
    else if reason =? 4 then "version"
    else "sum"

-- "the replay's last line then ends with both [reason and record number], as in `end failed 1 sum 3`": in Failed, and nowhere else (B12)
abbrev pub line_end : Transfer → List ℕ
line_end t = if t.phase is Failed then ascii " " ++ ascii (reason_name t.reason) ++ ascii " " ++ field t.faulty "\n" else ascii "\n"

abbrev pub last_line : (contexts : ℕ) → Device → List ℕ
last_line contexts d =
    ascii "end " ++ ascii (phase_name d.transfer.phase) ++ ascii " " ++ decimal contexts ++ line_end d.transfer

-- document 02, T-09: "The last line comes once for each module, 0 first, each with the shared number."
abbrev pub last_lines : Cabinet → List ℕ
last_lines c = last_line c.contexts c.first ++ last_line c.contexts c.second

-- The text of a whole log.
unfoldable pub replay_text : (log : List ℕ) → List ℕ
replay_text log =
    heading
    ++ record_lines 0 replay_start log (records_in log)
    ++ tail_line (records_in log) (short_tail log)
    ++ last_lines (whole_after replay_start log (records_in log)).cabinet
