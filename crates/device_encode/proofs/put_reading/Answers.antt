-- `device_encode::put_reading` meets its contract. Four stores, each right behind the one before (proofs/Built.antt).
-- Assumes nothing.
use native.Mathlib.Omega.{arith}
use Rattle.rules.specs.Bytes.{le}
use Rattle.device_encode.proofs.Built.{Placed, then}
use Rattle.device_encode.proofs.put_reading.Goals as goal

pub returns : goal.returns
returns c =
    let r = c.args.r in
    let first : Placed 40 (le 1 r.spare) c.args.out.now _ = record { inside = omega (arith, c.requires); is = c.put.ensures } in
    (then (le 2 r.controller) (then (le 2 r.media) (then (le 1 c.args.trips) first c.put-2.ensures) c.put-3.ensures) c.put-4.ensures).is
