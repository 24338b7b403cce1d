-- `compare_text::put_lines` meets its contract: what was written so far are the lines of the entries before this one.
-- Assumes nothing.
use Rattle.std.proofs.Common.{◌*◌, take}
use Rattle.text.specs.Wrote.{WroteWithin}
use Rattle.compare_text.specs.Lines.{entry_lines}
use Rattle.compare_text.proofs.put_lines.Given as goal

abbrev pub invariant-loop-entry : goal.invariant-loop-entry
invariant-loop-entry l =
    WroteWithin (64 * l.entry-index) l.initial.out l.at (entry_lines (take l.entry-index l.entries)) l.out l.next
