-- What ends the last line in Failed.
-- Assumes nothing.
use mathlib.Core.{Path.{◌≡◌}, List.{List, ◌++◌}}
use Prim.Native.Nat.{ℕ}
use Rattle.rules.{specs.Text.{ascii, field}, specs.Replay.{reason_name, line_end}, specs.declared.Phase.TheVariants.Failed, specs.declared.Transfer.Transfer}
use Rattle.text.{specs.Wrote.Wrote, proofs.Writing.rewrote}

pub failed : {old new : List ℕ} {at i : ℕ} (t : Transfer) → t.phase ≡ Failed → Wrote old at (ascii " " ++ ascii (reason_name t.reason) ++ ascii " " ++ field t.faulty "\n") new i
    → Wrote old at (line_end t) new i
failed t e = rewrote (rw e)
