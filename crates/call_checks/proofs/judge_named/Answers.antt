-- `call_checks::judge_named` meets its contract. Its module's record, and whether the other has the area, are the definition's.
-- Assumes nothing.
use mathlib.Core.Path.{◌∙◌, ap}
use Rattle.rules.{specs.Record.{has_area, module_of}, specs.Refusals.verdict, specs.Module.{call_of, checks}, specs.declared.Device.Device}
use Rattle.call_checks.proofs.judge_named.Goals as goal

pub returns : goal.returns
returns c = λ area.
    let a = c.args in
    let taken = c.has_area-taken.ensures ∙ ap (λ (d : Device). has_area d.transfer) c.other.ensures in
    c.judge_function.ensures area
    ∙ λ i. verdict (checks (module_of (c.own-own.ensures i) area a.c.contexts (taken i)) (call_of a.asked.now.function a.asked.now.revision a.asked.now.request.now))
