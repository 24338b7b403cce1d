-- What an accepted Send comes to: the transfer and the area after it. How many contexts are given out has no part in it.
-- Assumes nothing.
use mathlib.Core.{Path.◌≡◌, List.List}
use Rattle.std.specs.Prelude.{ℕ}
use Rattle.rules.specs.Transfer.{TransferCall, transfer_change, transfer_area}
use Rattle.rules.specs.declared.Transfer.{Transfer}

pub record Sent (t : Transfer) (call : TransferCall) (area : List ℕ) (t' : Transfer) (area' : List ℕ) : Type 0 where
  pub transfer_is : (given : ℕ) → t' ≡ transfer_change t given call
  pub area_is : area' ≡ transfer_area call area
