-- How long the names are.
-- Assumes nothing.
use mathlib.Core.{Bool.{Bool, true, false}}
use Prim.Native.Nat.{ℕ, ◌≤◌}
use native.Mathlib.Omega.{arith}
use lib.ListN.{length}
use Rattle.std.specs.Prelude.{if◌then◌else◌}
use Rattle.rules.{specs.Tests.◌=?◌, specs.Text.ascii, specs.Replay.{phase_name, reason_name}, specs.declared.Phase.Phase, specs.declared.Phase.TheVariants.{Idle, Receiving, Verifying, Staged, Failed}}

pub short_phase : (p : Phase) → length (ascii (phase_name p)) ≤ 9
short_phase Idle = omega arith
short_phase Receiving = omega arith
short_phase Verifying = omega arith
short_phase Staged = omega arith
short_phase Failed = omega arith

pub short_reason : (n : ℕ) → length (ascii (reason_name n)) ≤ 7
short_reason n = go (n =? 1) (n =? 2) (n =? 3) (n =? 4)
  where
    go : (size number count version : Bool) → length (ascii (if size then "size" else if number then "number" else if count then "count" else if version then "version" else "sum")) ≤ 7
    go true number count version = omega arith
    go false true count version = omega arith
    go false false true version = omega arith
    go false false false true = omega arith
    go false false false false = omega arith
