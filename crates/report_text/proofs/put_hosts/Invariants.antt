-- `report_text::put_hosts` meets its contract. The loop's invariant: the lines of the first rows were written.
use Prim.Native.Nat.{◌*◌}
use Rattle.text.specs.Wrote.{WroteWithin}
use Rattle.report_text.specs.Lines.{host_room}
use Rattle.report_text.proofs.First.{first_hosts}
use Rattle.report_text.proofs.put_hosts.Given as goal

abbrev pub invariant-loop-before : goal.invariant-loop-before
invariant-loop-before l = WroteWithin (l.before * host_room) l.initial.out l.at (first_hosts l.grid l.before) l.out l.next
