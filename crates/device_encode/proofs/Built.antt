-- What a run of stores makes: each writes right behind the one before, so that all of them are one.
-- Assumes nothing.
use mathlib.Core.{Path.{◌≡◌, refl, ◌∙◌, ap}, Bool.{Bool, true, false}, List.{List, ◌++◌}}
use Prim.Native.Nat.{ℕ, ◌≤◌, ◌+◌}
use lib.ListN.{length}
use mir.Val.{bool_byte}
use Rattle.rules.specs.Bytes.{splice}
use Rattle.bytes_base.proofs.Parts.{splice_splice}
use Rattle.device_bytes.specs.Encoding.{flag}

-- a flag's byte, as the code makes it of the flag
pub flag_byte : (on : Bool) → bool_byte on ≡ flag on
flag_byte true = refl
flag_byte false = refl

-- new is old with these bytes from a place on
pub record Placed (at : ℕ) (bytes old new : List ℕ) : Type 0 where
  pub inside : at ≤ length old
  pub is : new ≡ splice at bytes old

-- the next bytes, written right behind them
pub then : {at : ℕ} {bytes old mid new : List ℕ} (next : List ℕ)
    → Placed at bytes old mid → new ≡ splice (at + length bytes) next mid → Placed at (bytes ++ next) old new
then {at} {bytes} {old} next p q =
    record { inside = p.inside; is = q ∙ ap (splice (at + length bytes) next) p.is ∙ splice_splice at bytes next old p.inside }
