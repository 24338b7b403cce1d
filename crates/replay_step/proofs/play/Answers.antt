-- `replay_step::play` meets its contract: each arm plays the entry, which is what the record says.
use Rattle.rules.specs.Record.{whole_of}
use Rattle.replay_step.proofs.Steps.{as_call, request_within}
use Rattle.replay_step.proofs.play.Goals as goal

pub slice_bounds-request-end : goal.slice_bounds-request-end
slice_bounds-request-end c = request_within c.args.bytes.now c.requires.value c.in-Call.is

pub returns-in-Call : goal.returns-in-Call
returns-in-Call c = let a = c.args in
    as_call (whole_of a.c a.area.now) a.bytes.now a.answer.now c.requires.value c.in-Call.is c.requires.answer_len c.call.ensures
