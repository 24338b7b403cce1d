-- What a change may count on: its call's own checks have passed, whether the other module had the area then or not. The change itself doesn't ask.
-- Assumes nothing.
use mathlib.Core.{Path.◌≡◌, Bool.Bool, List.List}
use Rattle.std.specs.Prelude.{ℕ}
use Rattle.rules.{specs.Record.module_of, specs.Refusals.verdict, specs.Module.{Call, checks}, specs.declared.Device.Device}
use Rattle.std.specs.Prelude.{Ok}

pub record Acceptable (d : Device) (area : List ℕ) (given : ℕ) (asked : Call) : Type 0 where
  pub taken : Bool
  pub passed : verdict (checks (module_of d area given taken) asked) ≡ Ok tt
