-- `report_log::Going::count_part` meets its contract. The loop's invariant: the first records were counted, and the iterator has the rest of the part.
use mathlib.Core.Path.{refl, ◌∙◌, ap}
use native.Mathlib.Omega.{arith}
use lib.ListN.{length}
use borrow.Author.Rules.{rules}
use Rattle.std.proofs.lemmas.List.{length_push}
use Rattle.std.specs.Slice.Iter.{chunks_exact_rest, chunks_exact_size}
use Rattle.rules.specs.Record.{whole_of}
use Rattle.report_tally.specs.Tally.{tally_of}
use Rattle.report_log.proofs.Parts.{begun_at, one_more, all_of}
use Rattle.report_log.proofs.Going.count_part.Goals as goal

pub loop-record-init : goal.loop-record-init
loop-record-init c = let a = c.args in
    let same = c.into_iter-record-iterator.ensures.into_iter_gives in
    let items = c.chunks_exact-record-items.ensures in (
      ap chunks_exact_size same ∙ items.size,
      refl,
      begun_at (tally_of a.self.now.counting) (whole_of a.self.now.cabinet a.area.now) a.part.now (ap chunks_exact_rest same ∙ items.rest) refl refl,
    )

pub loop-record-preserved : goal.loop-record-preserved
loop-record-preserved c = let a = c.args in
    let l = c.loop-record in
    let step = rw c.in-Some.is at c.next.ensures.steps in (
      step.0 ∙ l.invariant.0,
      search rules,
      one_more (tally_of a.self.now.counting) (whole_of a.self.now.cabinet a.area.now) a.part.now (length l.yielded) _ _ (length_push l.yielded _) l.invariant.2 step.1.0 (step.1.1 ∙ l.invariant.0) c.count_record.ensures,
    )

pub returns : goal.returns
returns c = let a = c.args in
    let l = c.loop-record in
    let step = rw c.in-None.is at c.next.ensures.steps in
    all_of (tally_of a.self.now.counting) (whole_of a.self.now.cabinet a.area.now) a.part.now (length l.yielded) l.invariant.2 (omega (arith, step.1.0, l.invariant.0))
