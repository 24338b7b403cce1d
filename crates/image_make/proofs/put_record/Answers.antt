-- `image_make::put_record` meets its contract: the fields are written one after another, and the sum is of what stands before it.
-- Assumes nothing.
use Rattle.image_make.proofs.Laws.{record_written}
use Rattle.image_make.proofs.put_record.Goals as goal

pub returns : goal.returns
returns c = let a = c.args in
    record_written a.i a.n a.version a.part.now a.record.now c.requires.0 c.requires.1
    c.put.ensures c.put-2.ensures c.put-3.ensures c.put_part.ensures
    c.sum.ensures c.put-4.ensures
