-- `cabinet_decode::decode` meets its contract. What is a cabinet is read; anything else is the impossible one (proofs/Decoded.antt).
-- Assumes nothing.
use Rattle.cabinet_decode.proofs.Decoded.{was_cabinet, was_none, not_whole}
use Rattle.cabinet_decode.proofs.decode.Goals as goal
use Rattle.cabinet_decode.proofs.decode.Goals.{in_default-via-in-Some+else-is_cabinet, in_default-via-in_default}

pub returns-in-Some : goal.returns-in-Some
returns-in-Some c = was_cabinet c.args.s.now c.in-Some.bytes.now c.in-Some.ensures.cases c.is_cabinet.ensures c.if-is_cabinet.true c.to_cabinet.ensures

pub returns-in_default : goal.returns-in_default
returns-in_default c = elim c.in_default.branch [
  | in_default-via-in-Some+else-is_cabinet w ↦ was_none c.args.s.now w.in-Some.bytes.now w.in-Some.ensures.cases w.is_cabinet.ensures w.if-is_cabinet.false c.no_cabinet.ensures
  | in_default-via-in_default w ↦ not_whole c.args.s.now w.in_default.ensures.cases c.no_cabinet.ensures
]
