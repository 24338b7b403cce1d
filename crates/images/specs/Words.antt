-- How many arguments each job has: its own name, and those that it is given.
-- Assumes nothing.
use Rattle.std.specs.Prelude.{ℕ}
use Rattle.images.specs.declared.Job.{Job, TheVariants.{Make, Read}}

abbrev pub words_of : Job → ℕ
words_of Make = 3
words_of Read = 2
