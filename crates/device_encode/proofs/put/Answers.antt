-- `device_encode::put` meets its contract. Its parts, each right behind the one before, are all of the 128 bytes (proofs/Built.antt).
-- Assumes nothing.
use mathlib.Core.{Path.◌∙◌, List.◌++◌}
use native.Mathlib.Omega.{arith}
use Rattle.rules.specs.Bytes.{zeros}
use Rattle.bytes_base.proofs.Parts.{copy_whole}
use Rattle.device_bytes.{specs.Encoding.{first_bytes, transfer_bytes, encoded_thresholds, fault_bytes, reading_bytes, encode_of}, proofs.Back.long, proofs.Range.in_range}
use Rattle.device_encode.proofs.Built.{Placed, then}
use Rattle.device_encode.proofs.put.Goals as goal

pub returns : goal.returns
unfolding encode_of
returns c =
    let d = c.args.d in
    let old = c.args.out.now in
    let first : Placed 0 (first_bytes d) old _ = record { inside = omega arith; is = c.put_first.ensures } in
    let numbers = then (encoded_thresholds d.thresholds) (then (transfer_bytes d.transfer) first c.put_transfer.ensures) c.put_thresholds.ensures in
    let fault = then (fault_bytes d.transfer) numbers c.put_fault.ensures in
    (then (d.security.passphrase ++ zeros 32) (then (zeros 18) (then (reading_bytes d.reading d.trips) fault c.put_reading.ensures) c.put_zeros.ensures) c.put_passphrase.ensures).is
    ∙ copy_whole (encode_of d) old (omega (arith, long d (in_range d _ c.well_formed.0), c.requires))
