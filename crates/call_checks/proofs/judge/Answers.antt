-- `call_checks::judge` meets its contract. The gate first; where it accepts, the function decides.
-- Assumes nothing.
use mathlib.Core.Path.{sym, ◌∙◌, ap, subst}
use lib.ListN.{length}
use Rattle.std.proofs.lemmas.Result.{err_from_is_err_and}
use Rattle.rules.{specs.Record.{whole_of, standing}, specs.Refusals.verdict, specs.Table.row_of, specs.Module.{call_of, checks}, specs.Cabinet.gate_checks, specs.declared.Row.Row}
use Rattle.rules.proofs.page.Fitting.{Fitting, gate_fits}
use Rattle.call_checks.proofs.Joined.{stands, decides}
use Rattle.call_checks.proofs.judge.Goals as goal

pub invariant_of-asked : goal.invariant_of-asked
invariant_of-asked c =
    let a = c.args in
    let k = a.call.now in
    record {
      fits = subst (λ (r : Row). Fitting r.function (length k.request.now)) (sym k.in_table)
          (gate_fits (whole_of a.c a.area.now) k.named k.revision k.index k.request.now a.answer.now (sym c.in_ok-judge_gate.ensures));
    }

pub returns-in_err-judge_gate : goal.returns-in_err-judge_gate
returns-in_err-judge_gate c =
    let a = c.args in
    let w = whole_of a.c a.area.now in
    let p = err_from_is_err_and c.from_residual.result c.from_residual.ensures.1 in
    rw (p.1, p.2) (stands (gate_checks w a.call.now.named a.call.now.revision a.call.now.index a.call.now.request.now a.answer.now) (checks (standing a.call.now.named w) (call_of (row_of a.call.now.index).function a.call.now.revision a.call.now.request.now)) (sym c.in_err-judge_gate.ensures))

pub returns : goal.returns
returns c =
    let a = c.args in
    let w = whole_of a.c a.area.now in
    decides (gate_checks w a.call.now.named a.call.now.revision a.call.now.index a.call.now.request.now a.answer.now) (checks (standing a.call.now.named w) (call_of (row_of a.call.now.index).function a.call.now.revision a.call.now.request.now))
    (sym c.in_ok-judge_gate.ensures)
    (c.judge_named.ensures a.area.now ∙ ap (λ (r : Row). verdict (checks (standing a.call.now.named w) (call_of r.function a.call.now.revision a.call.now.request.now))) a.call.now.in_table)
