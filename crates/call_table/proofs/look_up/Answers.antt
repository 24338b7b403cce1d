-- `call_table::look_up` meets its contract: what the ranges name the table lacks.
use native.Mathlib.Omega.{arith}
use Rattle.call_table.proofs.Laws.{no_row_at}
use Rattle.call_table.proofs.look_up.Goals as goal

pub returns-in-3-to-11 : goal.returns-in-3-to-11
returns-in-3-to-11 c = no_row_at c.args.index ((((((((((((((tt, λ e. grind arith), λ e. grind arith), λ e. grind arith), λ e. grind arith), λ e. grind arith), λ e. grind arith), λ e. grind arith), λ e. grind arith), λ e. grind arith), λ e. grind arith), λ e. grind arith), λ e. grind arith), λ e. grind arith), λ e. grind arith) c.row-in-3-to-11.ensures
