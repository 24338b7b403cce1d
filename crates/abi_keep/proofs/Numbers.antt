-- A callee's number for C, handed on.
-- Assumes nothing.
use mathlib.Core.Path.{◌≡◌, ◌∙◌}
use Prim.Native.Nat.{◌<◌, ◌^◌}
use lib.{IntN.{ℤ}, Signed.mag}
use mir.{Syntax.{w32}, Val.{SFits, hbits, to_z, of_z}, Facts.{to_z-of_z}}

pub passed_on : {z y : ℤ} → mag z < 2 ^ hbits w32 → z ≡ y → to_z w32 (of_z w32 z) ≡ y
passed_on h e = to_z-of_z {w = w32} (record { sfits = h }) ∙ e
