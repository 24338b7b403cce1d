-- A report's lines, and the room that each has. A number has room for 20 digits, as crates/text writes it.
-- Assumes nothing.
use Rattle.std.specs.Prelude.{List, ◌++◌, ℕ}
use Rattle.rules.specs.{Text.{ascii, decimal}, Report.row_text}

-- a host's line
abbrev pub host_line : (host : ℕ) (row : List ℕ) → List ℕ
host_line host row = ascii "host " ++ decimal host ++ row_text row

-- 12 counts of a row, each after a space, and the line's end: 12 * (1 + 20) + 1
abbrev pub row_room : ℕ
row_room = 253

-- "host ", a number and a row: 5 + 20 + 253
abbrev pub host_room : ℕ
host_room = 278

-- the lines of 4 hosts
abbrev pub hosts_room : ℕ
hosts_room = 1112

-- a count's name, of which the longest is "function 0 ", the count and the line's end: 11 + 20 + 1
abbrev pub count_room : ℕ
count_room = 32

-- the lines of 6 counts
abbrev pub counts_room : ℕ
counts_room = 192

-- a report: the heading of 33 bytes and the lines need 33 + 1,112 + 192 = 1,337
abbrev pub report_room : ℕ
report_room = 2048
