-- What holds of every row of a table, and of the row for an index that it lacks, holds of the row that is looked up.
-- Assumes nothing.
use mathlib.Core.{Path.{◌≡◌, refl}, Bool.{Bool, true, false}, List.{[], List, ◌∷◌}}
use Prim.Native.Nat.{ℕ}
use Rattle.std.specs.Prelude.{if◌then◌else◌}
use Rattle.rules.specs.{Tests.{◌=?◌}, Table.{unserved, look_up}, declared.Row.Row}

abbrev pub All : (Row → Type 0) → List (ℕ × Row) → Type 0
All P [] = P unserved
All P (place ∷ places) = P place.1 × All P places

pub looked_up : (P : Row → Type 0) (index : ℕ) (places : List (ℕ × Row)) → All P places → P (look_up index places)
looked_up P index [] all = all
looked_up P index (place ∷ places) all = go (index =? place.0) all.0 (looked_up P index places all.1)
  where
    go : (found : Bool) → P place.1 → P (look_up index places) → P (if found then place.1 else look_up index places)
    go true here there = here
    go false here there = there

-- The same where the row is known to be the index's own.
abbrev pub AllAt : (index : ℕ) → (Row → Type 0) → List (ℕ × Row) → Type 0
AllAt index P [] = P unserved
AllAt index P (place ∷ places) = ((index =? place.0) ≡ true → P place.1) × AllAt index P places

pub looked_up_at : (P : Row → Type 0) (index : ℕ) (places : List (ℕ × Row)) → AllAt index P places → P (look_up index places)
looked_up_at P index [] all = all
looked_up_at P index (place ∷ places) all = go (index =? place.0) refl (looked_up_at P index places all.1)
  where
    go : (found : Bool) → (index =? place.0) ≡ found → P (look_up index places) → P (if found then place.1 else look_up index places)
    go true e there = all.0 e
    go false e there = there
