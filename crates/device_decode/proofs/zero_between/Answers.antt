-- `device_decode::zero_between` meets its contract. Each number is zero where its bytes are (bytes_numbers/proofs/Zeros.antt), and two of them share some (proofs/Overlap.antt).
-- Assumes nothing.
use Rattle.bytes_numbers.proofs.Zeros.{zero_first, zero_more}
use Rattle.device_decode.proofs.Overlap.{overlapped}
use Rattle.device_decode.proofs.zero_between.Goals as goal

pub returns : goal.returns
returns c =
    let s = c.args.bytes.now in
    overlapped s (zero_more 46 8 8 s (zero_first 46 8 s c.read.ensures) c.read-2.ensures) c.read-3.ensures
