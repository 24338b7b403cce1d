-- A log that comes in parts.
-- Assumes nothing.
use mathlib.Core.{Path.◌≡◌, List.{List, [], ◌∷◌, ◌++◌}}
use Rattle.std.specs.Prelude.{ℕ, ◌*◌, length}
use Rattle.rules.specs.Log.{record_size, records_in}

-- the log: its parts, one after the other, and a tail
abbrev pub log_of : (parts : List (List ℕ)) (tail : List ℕ) → List ℕ
log_of [] tail = tail
log_of (part ∷ parts) tail = part ++ log_of parts tail

-- each part is whole records
abbrev pub WholeRecords : (parts : List (List ℕ)) → Type 0
WholeRecords [] = Unit {0}
WholeRecords (part ∷ parts) = (length part ≡ records_in part * record_size) × WholeRecords parts
