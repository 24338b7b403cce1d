-- `cabinet::reading` meets its contract. The verdict settles the result of the definition (proofs/Outcomes.antt).
-- Assumes nothing.
use mathlib.Core.Path.{◌∙◌, ap}
use Rattle.rules.{specs.Record.{whole_of, with_device_at}, specs.Module.device_keeping, specs.Cabinet.{kept, reading_checks, reading_result}, specs.declared.Device.Device}
use Rattle.cabinet.proofs.Outcomes.{as_changed, as_left}
use Rattle.cabinet.proofs.reading.Goals as goal
use Rattle.std.specs.Prelude.{Ok, Err}

pub returns-in-Ok : goal.returns-in-Ok
unfolding reading_result
returns-in-Ok c =
    let a = c.args in
    let w = whole_of a.c a.area.now in
    as_changed w (kept w a.named a.new).cabinet (reading_checks w a.named a.new) c.judge_reading-verdict.ensures c.in-Ok.is c.result.ensures
    (c.with_device.ensures ∙ ap (λ (d : Device). with_device_at a.named d a.c) (c.keeping-kept.ensures ∙ ap (device_keeping a.new) c.own.ensures))

pub returns-in-Err : goal.returns-in-Err
unfolding reading_result
returns-in-Err c =
    let a = c.args in
    let w = whole_of a.c a.area.now in
    as_left w (kept w a.named a.new).cabinet (reading_checks w a.named a.new) _ c.judge_reading-verdict.ensures c.in-Err.is c.result-in-Err.ensures
