-- `cabinet_encode::put` meets its contract. The number, zeros, and two parts that are lent, all of the 288 bytes (proofs/Built.antt).
-- Assumes nothing.
use Rattle.cabinet_bytes.proofs.Range.{in_range}
use Rattle.cabinet_encode.proofs.Built.{built}
use Rattle.cabinet_encode.proofs.put.Goals as goal

pub returns : goal.returns
returns c =
    built c.args.c (in_range c.args.c _ c.well_formed.0) c.args.out.now c.requires c.put.ensures c.put_zeros.ensures c.put-2.ensures c.put-3.ensures
