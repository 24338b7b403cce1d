-- `cabinet::call` meets its contract. The verdict settles the result of the definition (proofs/Outcomes.antt).
-- Assumes nothing.
use native.Mathlib.Omega.{arith}
use mathlib.Core.Path.{sym, ◌∙◌, ap}
use Rattle.rules.{specs.Record.{whole_of, device_of}, proofs.page.Past.{named_possible, attempts_most}}
use Rattle.cabinet.proofs.Outcomes.{as_accepted, as_R, as_status, room, event_checks_law, fits, own_checks, status_fits}
use Rattle.cabinet.proofs.call.Goals as goal
use Rattle.std.specs.Prelude.{Ok, Err}

pub serve-after-requires : goal.serve-after-requires
serve-after-requires c =
    let a = c.args in
    let w = whole_of a.c a.area.now in
    let row = c.look_up-row in
    let e = sym c.judge-verdict.ensures ∙ c.in-Ok.is in
    record {
      answer_room_in_bounds = (
        room w a.named a.revision a.function a.request.now a.answer.now row.result row.ensures (Ok tt) e tt,
        (event_checks_law w a.named a.revision a.function a.request.now a.answer.now row.result row.ensures (Ok tt) e tt).whole,
      );
      request_value = own_checks w a.named a.revision a.function a.request.now a.answer.now row.result row.ensures e;
    }

pub invariant_of-asked : goal.invariant_of-asked
invariant_of-asked c =
    let a = c.args in
    let row = c.look_up-row in
    let e = sym c.judge-verdict.ensures ∙ c.in-Ok.is in
    record { fits = fits (whole_of a.c a.area.now) a.named a.revision a.function a.request.now a.answer.now row.result row.ensures e }

pub put_status-requires : goal.put_status-requires
put_status-requires c =
    let a = c.args in
    let w = whole_of a.c a.area.now in
    let row = c.look_up-row in
    let e = sym c.judge-verdict.ensures ∙ c.in-Err.is ∙ ap Err c.in-Status.is in
    let h = status_fits w a.named a.revision a.function a.request.now a.answer.now row.result row.ensures c.in-Status.status in
    let r = room w a.named a.revision a.function a.request.now a.answer.now row.result row.ensures _ e tt in
    rw c.status_length-length.ensures (record { le_size = h.0; size_in_bounds = omega arith })

pub left-requires : goal.left-requires
left-requires c =
    let a = c.args in
    let w = whole_of a.c a.area.now in
    let row = c.look_up-row in
    let e = sym c.judge-verdict.ensures ∙ c.in-Err.is ∙ ap Err c.in-Status.is in
    let s = (event_checks_law w a.named a.revision a.function a.request.now a.answer.now row.result row.ensures _ e tt).sound in
    attempts_most a.c.contexts (device_of a.named a.c) (named_possible a.named a.c s)

pub returns-in-Ok : goal.returns-in-Ok
returns-in-Ok c =
    let a = c.args in
    let row = c.look_up-row in
    as_accepted (whole_of a.c a.area.now) a.named a.revision a.function a.request.now a.answer.now row.result row.ensures
    c.judge-verdict.ensures c.in-Ok.is c.result.ensures c.serve-after.ensures

pub returns-in-R : goal.returns-in-R
returns-in-R c =
    let a = c.args in
    let row = c.look_up-row in
    as_R (whole_of a.c a.area.now) a.named a.revision a.function a.request.now a.answer.now row.result row.ensures _
    (sym c.in-Err.is ∙ c.judge-verdict.ensures) (ap Err c.in-R.is) c.result-in-R.ensures

pub returns-in-Status : goal.returns-in-Status
returns-in-Status c =
    let a = c.args in
    let row = c.look_up-row in
    as_status (whole_of a.c a.area.now) a.named a.revision a.function a.request.now a.answer.now row.result row.ensures _ _ _
    (sym c.in-Err.is ∙ c.judge-verdict.ensures) (ap Err c.in-Status.is)
    c.result-in-Status.ensures c.status_length-length.ensures c.left.ensures c.put_status.ensures
