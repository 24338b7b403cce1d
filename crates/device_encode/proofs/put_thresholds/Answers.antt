-- `device_encode::put_thresholds` meets its contract. Four stores, each right behind the one before (proofs/Built.antt).
-- Assumes nothing.
use native.Mathlib.Omega.{arith}
use Rattle.rules.specs.Bytes.{le, zeros}
use Rattle.device_encode.proofs.Built.{Placed, then}
use Rattle.device_encode.proofs.put_thresholds.Goals as goal

pub returns : goal.returns
returns c =
    let h = c.args.h in
    let first : Placed 32 (le 1 h.spare) c.args.out.now _ = record { inside = omega (arith, c.requires); is = c.put.ensures } in
    (then (le 2 h.controller) (then (le 2 h.media) (then (zeros 1) first c.put_zeros.ensures) c.put-2.ensures) c.put-3.ensures).is
