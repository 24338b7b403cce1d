-- What it is to write a text at a place.
-- Assumes nothing.
use mathlib.Core.{Path.◌≡◌, List.List}
use Rattle.std.specs.Prelude.{ℕ, ◌+◌, ◌≤◌, length}
use Rattle.rules.specs.Bytes.{splice}

-- the room that each line of a replay has, which is more than the longest takes: four numbers of 20 digits, a word and the signs between them
abbrev pub line_room : ℕ
line_room = 96

-- The text was written over old at a place: new is what came of it, next the place after it. Every other byte stays.
pub record Wrote (old : List ℕ) (at : ℕ) (text new : List ℕ) (next : ℕ) : Type 0 where
  pub next_is : next ≡ at + length text
  pub new_is : new ≡ splice at text old

-- The same, where the text took no more room than so much.
pub record WroteWithin (most : ℕ) (old : List ℕ) (at : ℕ) (text new : List ℕ) (next : ℕ) : Type 0 where
  pub within : next ≤ at + most
  pub wrote : Wrote old at text new next
