-- Document 02, "T-05 Reserved means zero". The checks themselves stand with their functions, `finish_checks` (Transfer.antt) and `threshold_checks`
-- (Thresholds.antt); here is what they come to. Readings: docs/DECISIONS.md, B21, B22.
-- Assumes nothing.
use Rattle.std.specs.Prelude.{ℕ, ◌≤◌, ◌<◌}
use mathlib.Core.{Path.◌≡◌, Bool.{true, false, not}, List.{List, [], ◌∷◌}}
use Rattle.rules.specs.Tests.{◌<?◌}
use Rattle.rules.specs.Bytes.{zeros?, on}
use Rattle.rules.specs.Record.{◌is◌, live}
use Rattle.rules.specs.Refusals.{◌gives◌, verdict}
use Rattle.rules.specs.Thresholds.{SetThreshold, threshold_checks, threshold_change}
use Rattle.rules.specs.Transfer.{finish_checks}
use Rattle.rules.specs.declared.{Refusal.TheVariants.Status, Phase.TheVariants.Receiving, Transfer.Transfer, Thresholds.Thresholds}
use Rattle.std.specs.Prelude.{Ok, Err}

-- Of a Finish, in every phase and with every flag and context; and of a Set Threshold, whatever else it carries:
pub record RequestT05 : Type 0 where
  -- "A Finish with a nonzero reserved byte .. is refused. Refusals: status 3";
  pub finish_reserved : (t : Transfer) (flag : ℕ) (reserved : List ℕ) (context : ℕ) → zeros? reserved ≡ false
      → verdict (finish_checks t flag reserved context) ≡ Err (Status 3 0)
  -- with zeros there it is judged as document 01 says: flag, context, phase
  pub finish_zeros : (t : Transfer) (flag : ℕ) (reserved : List ℕ) (context : ℕ) → zeros? reserved ≡ true
      → verdict (finish_checks t flag reserved context)
      ≡ verdict ((1 <? flag gives Status 3 0) ∷ (not (live t context) gives Status 7 1) ∷ (not (t.phase is Receiving) gives Status 7 2) ∷ [])
  -- "or Set Threshold with any of enable bits 3 to 15, is refused. Refusals: status 3"; bits 0 to 2 make 7 at most, and any bit from 3 on makes more
  pub any_bit : (k enable : ℕ) → 3 ≤ k → on k enable ≡ true → 7 < enable
  pub set_reserved : (enable spare media controller : ℕ) → 7 < enable
      → verdict (threshold_checks (SetThreshold enable spare media controller)) ≡ Err (Status 3 0)
  -- with none of them it is judged as document 01 says: by its spare
  pub set_zeros : (enable spare media controller : ℕ) → enable ≤ 7
      → verdict (threshold_checks (SetThreshold enable spare media controller)) ≡ verdict ((100 <? spare gives Status 3 0) ∷ [])
  -- document 01's "with enable bits 3 to 15 cleared" has nothing left to clear: an accepted Set stores its enable bits as they came, with the rest
  pub nothing_cleared : (h : Thresholds) (enable spare media controller : ℕ) → verdict (threshold_checks (SetThreshold enable spare media controller)) ≡ Ok tt
      → threshold_change h (SetThreshold enable spare media controller) ≡ record { enable = enable; spare = spare; media = media; controller = controller }
