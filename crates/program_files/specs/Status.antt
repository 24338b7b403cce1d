-- The exit status of a program whose text was not written.
-- Assumes nothing.
use Rattle.std.specs.Prelude.{ℕ}
use Rattle.program_files.specs.declared.Unwritten.{Unwritten, TheVariants.{Closed, Failed}}

-- 141 is what a shell has for a program that SIGPIPE ended
abbrev pub status_number : Unwritten → ℕ
status_number Closed = 141
status_number Failed = 0
