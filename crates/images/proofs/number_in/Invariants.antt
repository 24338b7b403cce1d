-- `images::number_in` meets its contract: what is left of the word gives, behind the number so far, what the whole does.
-- Assumes nothing.
use Rattle.std.proofs.Common.{◌≡◌, drop}
use Rattle.images.specs.Version.{number_from}
use Rattle.images.proofs.number_in.Given as goal

abbrev pub invariant-loop-byte : goal.invariant-loop-byte
invariant-loop-byte l = number_from l.number (drop l.byte-index l.word) ≡ number_from 0 l.word
