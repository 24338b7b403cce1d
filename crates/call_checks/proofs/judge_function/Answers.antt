-- `call_checks::judge_function` meets its contract. Each arm judges the function that it names.
-- Assumes nothing.
use mathlib.Core.Path.{sym}
use native.Mathlib.Omega.{arith}
use lib.{ListN.length, Seq.length-take-le}
use Rattle.rules.{specs.Record.module_of, proofs.page.Told.{there, judged}}
use Rattle.call_checks.proofs.judge_function.Goals as goal

pub judge_send-requires : goal.judge_send-requires
judge_send-requires c = there (length c.args.asked.now.request.now) c.in-Send.is c.args.asked.now.fits

pub judge_finish-requires : goal.judge_finish-requires
judge_finish-requires c = there (length c.args.asked.now.request.now) c.in-Finish.is c.args.asked.now.fits

pub judge_query-requires : goal.judge_query-requires
judge_query-requires c = there (length c.args.asked.now.request.now) c.in-Query.is c.args.asked.now.fits

pub judge_set-requires : goal.judge_set-requires
judge_set-requires c = there (length c.args.asked.now.request.now) c.in-SetThreshold.is c.args.asked.now.fits

pub slice_bounds-judge_set_passphrase-end : goal.slice_bounds-judge_set_passphrase-end
slice_bounds-judge_set_passphrase-end c = let h = there (length c.args.asked.now.request.now) c.in-SetPassphrase.is c.args.asked.now.fits in sym (length-take-le 32 c.args.asked.now.request.now (omega arith))

pub returns-in-Send : goal.returns-in-Send
returns-in-Send c = λ area. let a = c.args in judged (module_of a.d area a.given a.taken) a.asked.now.revision a.asked.now.request.now c.in-Send.is (c.judge_send.ensures a.given a.taken)

pub returns-in-Finish : goal.returns-in-Finish
returns-in-Finish c = λ area. let a = c.args in judged (module_of a.d area a.given a.taken) a.asked.now.revision a.asked.now.request.now c.in-Finish.is (c.judge_finish.ensures a.given a.taken)

pub returns-in-Query : goal.returns-in-Query
returns-in-Query c = λ area. let a = c.args in judged (module_of a.d area a.given a.taken) a.asked.now.revision a.asked.now.request.now c.in-Query.is (c.judge_query.ensures a.given a.taken)
