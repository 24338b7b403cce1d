-- `log_reader::stood_at` meets its contract: the part of the log that is decoded is the record at the place (proofs/Places.antt).
-- Assumes nothing.
use Rattle.log_reader.proofs.Places.{decoded}
use Rattle.log_reader.proofs.stood_at.Goals as goal

pub returns-then-place-count : goal.returns-then-place-count
returns-then-place-count c = let a = c.args in
    decoded a.log.now a.place _ c.if-place-count.true c.decode-entry.ensures
