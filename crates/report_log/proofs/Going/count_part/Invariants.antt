-- `report_log::Going::count_part` meets its contract. The loop's invariant: the first records were counted, and the iterator has the rest of the part.
use mathlib.Core.Path.{◌≡◌}
use lib.ListN.{length}
use Rattle.std.specs.Slice.Iter.{chunks_exact_rest, chunks_exact_size}
use Rattle.rules.specs.Record.{whole_of}
use Rattle.report_tally.specs.Tally.{tally_of}
use Rattle.report_log.proofs.Parts.{FirstTallied}
use Rattle.report_log.proofs.Going.count_part.Given as goal

abbrev pub invariant-loop-record : goal.invariant-loop-record
invariant-loop-record l = (chunks_exact_size l.record-iterator ≡ 544) × (length l.answer ≡ length l.initial.answer)
    × FirstTallied (tally_of l.initial.self.counting) (whole_of l.initial.self.cabinet l.initial.area) l.part (length l.yielded) (chunks_exact_rest l.record-iterator) l.area l.self
