-- `cabinet_encode::put_named` meets its contract. The number, and the part of the module that is named (proofs/Built.antt).
-- Assumes nothing.
use native.Mathlib.Omega.{arith}
use Rattle.cabinet_bytes.proofs.{Range.in_range, Placed.inside}
use Rattle.cabinet_encode.proofs.Built.{named_built}
use Rattle.cabinet_encode.proofs.put_named.Goals as goal

pub returns : goal.returns
returns c =
    named_built c.args.named c.args.c (in_range c.args.c _ c.well_formed.0) c.args.out.now c.requires c.put.ensures c.place-at.ensures c.own-own.ensures c.put-2.ensures
    (omega (arith, c.place-at.ensures, inside c.args.named, c.requires.long))
