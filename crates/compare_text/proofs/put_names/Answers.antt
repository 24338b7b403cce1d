-- `compare_text::put_names` meets its contract: three names one after another.
-- Assumes nothing.
use Rattle.compare_text.proofs.Laws.{three_names}
use native.Mathlib.Omega.{arith}
use Rattle.compare_text.proofs.put_names.Goals as goal

pub returns : goal.returns
returns c = three_names (omega (arith, c.requires)) c.put_name-behind.ensures c.put_name-last.ensures c.put_name.ensures
