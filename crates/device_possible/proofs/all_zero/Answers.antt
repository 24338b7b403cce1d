-- `device_possible::all_zero` meets its contract. Each number is zero where its eight bytes are, and four of them are all the bytes (numbers/proofs/Zeros.antt).
-- Assumes nothing.
use mathlib.Core.Path.{◌∙◌, ap}
use native.Mathlib.Omega.{arith}
use lib.Seq.{take_all}
use Rattle.rules.specs.Bytes.{zeros?}
use Rattle.bytes_numbers.proofs.Zeros.{zero_first, zero_more}
use Rattle.device_possible.proofs.all_zero.Goals as goal

pub returns : goal.returns
returns c = let s = c.args.passphrase.now in
    zero_more 0 24 8 s (zero_more 0 16 8 s (zero_more 0 8 8 s (zero_first 0 8 s c.read.ensures) c.read-2.ensures) c.read-3.ensures) c.read-4.ensures
    ∙ ap zeros? (take_all 32 s (omega arith))
