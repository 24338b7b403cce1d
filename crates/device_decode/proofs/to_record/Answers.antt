-- `device_decode::to_record` meets its contract. Each field is the number read at its place (proofs/Decoded.antt).
-- Assumes nothing.
use Rattle.device_decode.proofs.Decoded.{read}
use Rattle.device_decode.proofs.to_record.Goals as goal

-- the numbers, in the order in which they are read: of the transfer, of the thresholds; the two parts; and the trips
pub returns : goal.returns
returns c =
    read c.args.bytes.now c.read.ensures c.phase_of-phase.ensures
    c.read-2.ensures c.read-3.ensures c.read-4.ensures
    c.read-5.ensures c.read-6.ensures c.read-7.ensures c.read-8.ensures
    c.read-9.ensures c.read-10.ensures c.read-11.ensures c.read-12.ensures
    c.to_security-security.ensures c.to_reading-reading.ensures c.read-trips.ensures
