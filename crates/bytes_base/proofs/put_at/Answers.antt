-- `bytes_base::put_at` meets its contract: the number's own bytes, and zeros behind them, are its bytes in the width.
-- Assumes nothing.
use mathlib.Core.Path.{◌∙◌}
use native.Mathlib.Omega.{arith}
use borrow.Author.Rules.{rules}
use Rattle.bytes_base.proofs.Widths.{two_parts}
use Rattle.bytes_base.proofs.put_at.Goals as goal

pub returns : goal.returns
returns c =
    two_parts c.args.at c.args.width c.args.number c.args.out.now c.requires (search rules) c.min-own.ensures (c.to_le_bytes.ensures ∙ grind arith)
    c.copy_at.ensures c.put_zeros.ensures
