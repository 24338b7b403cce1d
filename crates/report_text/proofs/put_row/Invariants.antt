-- `report_text::put_row` meets its contract. The loop's invariant: the first counts were written.
use Prim.Native.Nat.{◌*◌}
use Rattle.text.specs.Wrote.{WroteWithin}
use Rattle.report_text.proofs.First.{first_counts}
use Rattle.report_text.proofs.put_row.Given as goal

abbrev pub invariant-loop-count : goal.invariant-loop-count
invariant-loop-count l = WroteWithin (l.count-index * 21) l.initial.out l.at (first_counts l.row l.count-index) l.out l.next
