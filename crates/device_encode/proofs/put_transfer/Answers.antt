-- `device_encode::put_transfer` meets its contract. Four stores, each right behind the one before (proofs/Built.antt).
-- Assumes nothing.
use native.Mathlib.Omega.{arith}
use Rattle.rules.specs.Bytes.{le}
use Rattle.device_encode.proofs.Built.{Placed, then}
use Rattle.device_encode.proofs.put_transfer.Goals as goal

pub returns : goal.returns
returns c =
    let t = c.args.t in
    let first : Placed 8 (le 4 t.current) c.args.out.now _ = record { inside = omega (arith, c.requires); is = c.put.ensures } in
    (then (le 8 t.staged) (then (le 8 t.running) (then (le 4 t.received) first c.put-2.ensures) c.put-3.ensures) c.put-4.ensures).is
