-- Document 01, "Numbers of this product".
-- Assumes nothing.
use Rattle.std.specs.Prelude.{ℕ}

-- "Staging area 16,384 bytes."
abbrev pub area_size : ℕ
area_size = 16384

-- "Longest piece 512."
abbrev pub longest_piece : ℕ
longest_piece = 512

-- "Answer buffer at least 64." Document 02, T-04, in its place: "R1 now reads 132" (docs/DECISIONS.md, B14).
abbrev pub answer_room : ℕ
answer_room = 132

-- "Verification 8 ticks;"
abbrev pub verification : ℕ
verification = 8

-- "a tick stands for 1,000 microseconds."
abbrev pub tick_microseconds : ℕ
tick_microseconds = 1000

-- "Wrong passphrases before the limit: 10."
abbrev pub attempt_limit : ℕ
attempt_limit = 10

-- "Context numbers 1 to 4,294,967,295."
abbrev pub last_context : ℕ
last_context = 4294967295
