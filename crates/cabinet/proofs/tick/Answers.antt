-- `cabinet::tick` meets its contract. The verdict settles the result of the definition (proofs/Outcomes.antt).
-- Assumes nothing.
use mathlib.Core.Path.{sym, ◌∙◌}
use native.Mathlib.Omega.{arith}
use Rattle.rules.{specs.Record.whole_of, specs.Refusals.tick_checks, specs.Cabinet.{ticked, tick_result}}
use Rattle.rules.proofs.page.Past.{tick_passed, both_possible, received_most}
use Rattle.cabinet.proofs.Outcomes.{as_changed, as_left}
use Rattle.cabinet.proofs.tick.Goals as goal
use Rattle.std.specs.Prelude.{Ok, Err}

pub ticked-requires : goal.ticked-requires
ticked-requires c =
    let a = c.args in
    let s = tick_passed (whole_of a.c a.area.now) (sym c.judge_tick-verdict.ensures ∙ c.in-Ok.is) in
    omega (arith, received_most a.c.contexts a.c.first (both_possible a.c s.sound).0, s.whole)

pub ticked-requires-in-Ok : goal.ticked-requires-in-Ok
ticked-requires-in-Ok c =
    let a = c.args in
    let s = tick_passed (whole_of a.c a.area.now) (sym c.judge_tick-verdict.ensures ∙ c.in-Ok.is) in
    omega (arith, received_most a.c.contexts a.c.second (both_possible a.c s.sound).1, s.whole)

pub returns-in-Ok : goal.returns-in-Ok
unfolding tick_result
returns-in-Ok c =
    let a = c.args in
    let w = whole_of a.c a.area.now in
    as_changed w (ticked w).cabinet (tick_checks w) c.judge_tick-verdict.ensures c.in-Ok.is c.result.ensures
    (λ i. record { contexts = a.c.contexts; first = c.ticked.ensures i; second = c.ticked-in-Ok.ensures i })

pub returns-in-Err : goal.returns-in-Err
unfolding tick_result
returns-in-Err c =
    let a = c.args in
    let w = whole_of a.c a.area.now in
    as_left w (ticked w).cabinet (tick_checks w) _ c.judge_tick-verdict.ensures c.in-Err.is c.result-in-Err.ensures
