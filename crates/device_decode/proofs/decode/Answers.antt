-- `device_decode::decode` meets its contract. What is a record is read; anything else is the impossible one (proofs/Decoded.antt).
-- Assumes nothing.
use Rattle.device_decode.proofs.Decoded.{was_record, was_none, not_whole}
use Rattle.device_decode.proofs.decode.Goals as goal
use Rattle.device_decode.proofs.decode.Goals.{in_default-via-in-Some+else-is_record, in_default-via-in_default}

pub returns-in-Some : goal.returns-in-Some
returns-in-Some c = was_record c.args.s.now c.in-Some.bytes.now c.in-Some.ensures.cases c.is_record.ensures c.if-is_record.true c.to_record.ensures

pub returns-in_default : goal.returns-in_default
returns-in_default c = elim c.in_default.branch [
  | in_default-via-in-Some+else-is_record w ↦ was_none c.args.s.now w.in-Some.bytes.now w.in-Some.ensures.cases w.is_record.ensures w.if-is_record.false c.no_record.ensures
  | in_default-via-in_default w ↦ not_whole c.args.s.now w.in_default.ensures.cases c.no_record.ensures
]
