-- `device_encode::put_fault` meets its contract. Two stores, the second right behind the first (proofs/Built.antt).
-- Assumes nothing.
use native.Mathlib.Omega.{arith}
use Rattle.rules.specs.Bytes.{le}
use Rattle.device_encode.proofs.Built.{Placed, then}
use Rattle.device_encode.proofs.put_fault.Goals as goal

pub returns : goal.returns
returns c =
    let t = c.args.t in
    let first : Placed 38 (le 1 t.reason) c.args.out.now _ = record { inside = omega (arith, c.requires); is = c.put.ensures } in
    (then (le 1 t.faulty) first c.put-2.ensures).is
