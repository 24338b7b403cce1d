-- A length is told as it is.
-- Assumes nothing.
use mathlib.Core.{Path.{◌≡◌}}
use Prim.Native.Nat.{ℕ, ◌≤◌}
use native.Mathlib.Omega.{arith}
use lib.IntN.{pos}
use mir.{Syntax.w32, Val.{SFits, to_z}, Facts.to_z_pos}

-- a length of at most 128 records, as a number of 32 bits
pub as_number : (n : ℕ) → n ≤ 16384 → SFits w32 (pos n)
as_number n few = record { sfits = omega arith }

pub told_as_it_is : (n : ℕ) → n ≤ 16384 → to_z w32 n ≡ pos n
told_as_it_is n few = to_z_pos w32 (omega arith)
