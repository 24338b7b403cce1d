-- What every turn of a program over logs rests on.
-- Assumes nothing.
use Rattle.std.specs.Prelude.{ℕ, ◌+◌, ◌*◌, ◌≤◌}

-- the buffer that a log is read into
abbrev pub part_size : ℕ
part_size = 65280

-- Part and name lie in their buffers, and the numbers stay in 64 bits, for a turn passes 120 records at most.
abbrev pub Standing : (have size number left : ℕ) → Type 0
Standing have size number left = (have ≤ part_size) × (size ≤ 4096) × (number + 120 * left ≤ 120 * 72057594037927936)
