-- Document 01, "The replay program": the records of a log.
-- Assumes nothing.
use Rattle.std.specs.Prelude.{ℕ, ◌+◌, ◌*◌, ◌/◌, ◌%◌}
use mathlib.Core.{Bool.{Bool, not, ◌&&◌}, List.List}
use Rattle.std.specs.Prelude.{length, take, drop}
use Rattle.std.specs.Prelude.{if◌then◌else◌}
use Rattle.rules.specs.Tests.{◌≤?◌, ◌=?◌}
use Rattle.rules.specs.Bytes.{of_le, number_at, zeros?}
use Rattle.rules.specs.declared.{Entry.Entry, Entry.TheVariants.{Call, Tick, Power, Health, Bad}}
use Rattle.rules.specs.Health.{new_reading}

-- "544-byte records"
abbrev pub record_size : ℕ
record_size = 544

-- "kind (1 call, 2 tick, 3 power), host (1 to 4), revision (2), function (2), request length (2, at most 536), request padded with zeros to 536."
abbrev pub kind_bytes : List ℕ → List ℕ
kind_bytes bytes = take 1 (drop 0 bytes)

abbrev pub host_bytes : List ℕ → List ℕ
host_bytes bytes = take 1 (drop 1 bytes)

abbrev pub revision_bytes : List ℕ → List ℕ
revision_bytes bytes = take 2 (drop 2 bytes)

abbrev pub function_bytes : List ℕ → List ℕ
function_bytes bytes = take 2 (drop 4 bytes)

abbrev pub length_bytes : List ℕ → List ℕ
length_bytes bytes = take 2 (drop 6 bytes)

-- the request and its padding
abbrev pub request_bytes : List ℕ → List ℕ
request_bytes bytes = drop 8 bytes

abbrev pub kind_in : List ℕ → ℕ
kind_in bytes = of_le (kind_bytes bytes)

-- document 02, T-09: "In logs the host byte's high four bits name the module"; the low four are the host
abbrev pub named_in : List ℕ → ℕ
named_in bytes = of_le (host_bytes bytes) / 16

abbrev pub host_in : List ℕ → ℕ
host_in bytes = of_le (host_bytes bytes) % 16

abbrev pub revision_in : List ℕ → ℕ
revision_in bytes = of_le (revision_bytes bytes)

abbrev pub function_in : List ℕ → ℕ
function_in bytes = of_le (function_bytes bytes)

abbrev pub length_in : List ℕ → ℕ
length_in bytes = of_le (length_bytes bytes)

abbrev pub request_in : List ℕ → List ℕ
request_in bytes = take (length_in bytes) (request_bytes bytes)

-- the request is padded with zeros
abbrev pub padded : List ℕ → Bool
padded bytes = zeros? (drop (8 + length_in bytes) bytes)

-- a good call record; T-09: "a module over 1 makes the record bad"
abbrev pub good_call : List ℕ → Bool
good_call bytes = (1 ≤? host_in bytes) && (host_in bytes ≤? 4) && (named_in bytes ≤? 1) && (length_in bytes ≤? 536) && padded bytes

-- "Ticks and power have every byte after the kind zero." Of power T-09 leaves the module out.
abbrev pub bare : List ℕ → Bool
bare bytes = zeros? (drop 1 bytes)

-- T-09: "in power and reading records its [the host byte's] low four are zero; a module over 1 makes the record bad"
abbrev pub names_module : List ℕ → Bool
names_module bytes = (host_in bytes =? 0) && (named_in bytes ≤? 1)

abbrev pub good_power : List ℕ → Bool
good_power bytes = names_module bytes && zeros? (drop 2 bytes)

-- document 02, T-04: "log kind 4, its five bytes at 8 to 12" (B18)
abbrev pub spare_in : List ℕ → ℕ
spare_in bytes = number_at 1 8 bytes

abbrev pub media_in : List ℕ → ℕ
media_in bytes = number_at 2 9 bytes

abbrev pub controller_in : List ℕ → ℕ
controller_in bytes = number_at 2 11 bytes

-- "The record's other bytes are zero, .. and a record with spare over 100 is bad."
abbrev pub good_reading : List ℕ → Bool
good_reading bytes = names_module bytes && zeros? (take 6 (drop 2 bytes)) && zeros? (drop 13 bytes) && (spare_in bytes ≤? 100)

-- "Any other record is bad and skipped." A tail of less than a record is not asked: it is short.
unfoldable pub entry_of : List ℕ → Entry
entry_of bytes =
    if not (length bytes =? record_size) then Bad
    else if kind_in bytes =? 1 && good_call bytes then Call (named_in bytes) (host_in bytes) (revision_in bytes) (function_in bytes) (length_in bytes)
    else if kind_in bytes =? 2 && bare bytes then Tick
    else if kind_in bytes =? 3 && good_power bytes then Power (named_in bytes)
    else if kind_in bytes =? 4 && good_reading bytes then Health (named_in bytes) (new_reading (spare_in bytes) (media_in bytes) (controller_in bytes))
    else Bad

-- the whole records of a log, and record j of them
abbrev pub records_in : (log : List ℕ) → ℕ
records_in log = length log / record_size

abbrev pub record_at : (log : List ℕ) (j : ℕ) → List ℕ
record_at log j = take record_size (drop (j * record_size) log)

-- "A tail under 544 bytes is short."
abbrev pub short_tail : (log : List ℕ) → Bool
short_tail log = not (length log % record_size =? 0)
