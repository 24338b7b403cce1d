-- `cabinet_decode::is_cabinet` meets its contract. The length is the type's; each number is zero where its bytes are (bytes_numbers/proofs/Zeros.antt).
-- Assumes nothing.
use mathlib.Core.Path.{◌∙◌, ap, sym}
use mathlib.Core.Bool.{Bool, ◌&&◌}
use native.Mathlib.Omega.{arith}
use lib.ListN.{length, take, drop}
use borrow.Author.Tests.{eq-eqb}
use Rattle.rules.specs.Bytes.{zeros?}
use Rattle.bytes_numbers.proofs.Zeros.{zero_first, zero_more}
use Rattle.cabinet_bytes.specs.Encoding.{cabinet?}
use Rattle.cabinet_decode.proofs.is_cabinet.Goals as goal

pub returns : goal.returns
unfolding cabinet?
returns c =
    let s = c.args.bytes.now in
    zero_more 4 20 8 s (zero_more 4 12 8 s (zero_more 4 4 8 s (zero_first 4 4 s c.read.ensures) c.read-2.ensures) c.read-3.ensures) c.read-4.ensures
    ∙ ap (λ (t : Bool). t && zeros? (take 28 (drop 4 s))) (sym (eq-eqb (length s) 288 (omega arith)))
