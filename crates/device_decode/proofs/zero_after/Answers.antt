-- `device_decode::zero_after` meets its contract. Each number is zero where its bytes are (bytes_numbers/proofs/Zeros.antt), and the four are all that is left.
-- Assumes nothing.
use mathlib.Core.Path.{◌∙◌, ap}
use native.Mathlib.Omega.{arith}
use lib.{ListN.{drop, length-drop}, Seq.take_all}
use Rattle.rules.specs.Bytes.{zeros?}
use Rattle.bytes_numbers.proofs.Zeros.{zero_first, zero_more}
use Rattle.device_decode.proofs.zero_after.Goals as goal

pub returns : goal.returns
returns c =
    let s = c.args.bytes.now in
    zero_more 96 24 8 s (zero_more 96 16 8 s (zero_more 96 8 8 s (zero_first 96 8 s c.read.ensures) c.read-2.ensures) c.read-3.ensures) c.read-4.ensures
    ∙ ap zeros? (take_all 32 (drop 96 s) (rw length-drop (omega arith)))
