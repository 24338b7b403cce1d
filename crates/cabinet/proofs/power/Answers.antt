-- `cabinet::power` meets its contract. The verdict settles the result of the definition (proofs/Outcomes.antt).
-- Assumes nothing.
use mathlib.Core.Path.{◌∙◌, ap}
use Rattle.rules.{specs.Record.{whole_of, with_device_at}, specs.Refusals.event_checks, specs.Module.device_powered, specs.Cabinet.{powered, power_result}, specs.declared.Device.Device}
use Rattle.cabinet.proofs.Outcomes.{as_changed, as_left}
use Rattle.cabinet.proofs.power.Goals as goal
use Rattle.std.specs.Prelude.{Ok, Err}

pub returns-in-Ok : goal.returns-in-Ok
unfolding power_result
returns-in-Ok c =
    let a = c.args in
    let w = whole_of a.c a.area.now in
    as_changed w (powered w a.named).cabinet (event_checks w a.named) c.judge_event-verdict.ensures c.in-Ok.is c.result.ensures
    (c.with_device.ensures ∙ ap (λ (d : Device). with_device_at a.named d a.c) (c.powered-started.ensures ∙ ap device_powered c.own.ensures))

pub returns-in-Err : goal.returns-in-Err
unfolding power_result
returns-in-Err c =
    let a = c.args in
    let w = whole_of a.c a.area.now in
    as_left w (powered w a.named).cabinet (event_checks w a.named) _ c.judge_event-verdict.ensures c.in-Err.is c.result-in-Err.ensures
