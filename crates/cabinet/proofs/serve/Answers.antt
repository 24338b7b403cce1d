-- `cabinet::serve` meets its contract. The module that is named answers and changes, and is put in its place.
-- Assumes nothing.
use mathlib.Core.Path.{◌∙◌, ap, sym, subst}
use Rattle.rules.{specs.Record.{has_area, other_of, Module, module_of, whole_of, in_place}, specs.Refusals.answer_after, specs.Module.{call_of, accepted_answer, change}}
use Rattle.rules.specs.declared.Device.{Device}
use Rattle.call_changes.specs.Acceptable.{Acceptable}
use Rattle.cabinet.proofs.serve.Goals as goal

pub change-changed-requires : goal.change-changed-requires
change-changed-requires c =
    let a = c.args in
    let asked = call_of a.asked.now.function a.asked.now.revision a.asked.now.request.now in
    record {
      area_len = c.requires.answer_room_in_bounds.1;
      acceptable = subst (λ (d : Device). Acceptable d a.area.now a.c.contexts asked) (sym c.own-own.ensures) (record { taken = has_area (other_of a.named a.c).transfer; passed = c.requires.request_value });
    }

pub returns : goal.returns
returns c =
    let a = c.args in
    let own = c.own-own.ensures in
    let taken = has_area (other_of a.named a.c).transfer in
    let asked = call_of a.asked.now.function a.asked.now.revision a.asked.now.request.now in
    let now = c.change-changed.ensures taken ∙ ap (λ (d : Device). change (module_of d a.area.now a.c.contexts taken) asked) own in
    record {
      after_is = (λ i. whole_of (c.in_place.ensures i) c.change-changed.new.area) ∙ ap (λ (m : Module). in_place a.named m (whole_of a.c a.area.now)) now;
      answer_is = c.put_accepted.ensures a.area.now a.asked.now.request.now taken
          ∙ ap (λ (d : Device). answer_after (accepted_answer (module_of d a.area.now a.c.contexts taken) asked) a.answer.now) own;
    }
