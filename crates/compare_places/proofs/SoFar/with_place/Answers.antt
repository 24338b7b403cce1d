-- `compare_places::SoFar::with_place` meets its contract: where the list has no room, a store in it would change nothing.
-- Assumes nothing.
use Rattle.std.proofs.Common.{sym, ◌∙◌}
use Rattle.std.proofs.lemmas.List.{set_past}
use Rattle.compare_places.proofs.Laws.{listed_other}
use Rattle.compare_places.proofs.SoFar.with_place.Goals as goal
use Rattle.compare_places.proofs.SoFar.with_place.Goals.{then-at-list, else-at-list}

pub returns-clause-list_after : goal.returns-clause-list_after
returns-clause-list_after c =
    let a = c.args in
    let listed = listed_other a.self a.a.now a.b.now a.list.now (sym c.if-same.ensures) c.fields-fields.ensures.value in
    elim c.if-at-list.branch [
      | then-at-list w ↦ w.list-is ∙ listed
      | else-at-list w ↦ w.list-is ∙ sym (set_past a.list.now a.self.differing _ w.if-at-list.false) ∙ listed
    ]
