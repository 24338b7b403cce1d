-- `compare_text::put_line` meets its contract: number, names and the line's end one after another.
-- Assumes nothing.
use Rattle.compare_text.proofs.Laws.{line}
use native.Mathlib.Omega.{arith}
use Rattle.compare_text.proofs.put_line.Goals as goal

pub returns : goal.returns
returns c = line c.args.entry (omega (arith, c.requires)) c.put_decimal-number.ensures c.put_names-half.ensures c.put_names-names.ensures c.put.ensures
