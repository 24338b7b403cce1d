-- `device_encode::put_passphrase` meets its contract. The passphrase, and zeros right behind it (proofs/Built.antt).
-- Assumes nothing.
use mathlib.Core.Path.{sym, ◌∙◌, ap}
use Prim.Native.Nat.{ℕ, ◌+◌}
use native.Mathlib.Omega.{arith}
use Rattle.rules.specs.Bytes.{zeros, splice}
use Rattle.device_encode.proofs.Built.{Placed, then}
use Rattle.device_bytes.proofs.Range.{passphrase_long}
use Rattle.device_encode.proofs.put_passphrase.Goals as goal

pub returns : goal.returns
returns c =
    let s = c.args.s in
    let first : Placed 64 s.passphrase c.args.out.now _ = record { inside = omega (arith, c.requires); is = c.copy_at.ensures } in
    let place = ap (λ (n : ℕ). splice (64 + n) (zeros 32) c.copy_at.new.out) (sym (passphrase_long s _ c.well_formed.0)) in
    (then (zeros 32) first (c.put_zeros.ensures ∙ place)).is
