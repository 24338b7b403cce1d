-- Places counted and listed one after another, on from what was counted before.
-- Assumes nothing.
use Rattle.std.specs.Prelude.{ℕ, ◌+◌, ◌≤◌, ◌<◌}
use mathlib.Core.{List.List}
use lib.{ListN.length, Seq.sets}
use Rattle.rules.specs.{Bytes.same?, Compare.{places_in, difference_at, differences_to, leading_on, leading_to, entries}}
use Rattle.compare_places.specs.declared.SoFar.{SoFar}

-- more places than a log of 2 to the 64th bytes has; their numbers, times 64, stay in 64 bits
abbrev pub most_places : ℕ
most_places = 72057594037927936

-- what was counted stays in 64 bits
abbrev pub Counted : SoFar → Type 0
Counted s = (s.places < most_places) × (s.differing ≤ s.places)

-- before the first place
abbrev pub none_places : SoFar
none_places = record { places = 0; leading = 0; differing = 0 }

-- one place more
abbrev pub place_counted : SoFar → (a b : List ℕ) → SoFar
place_counted s a b =
    record {
      places = s.places + 1;
      leading = leading_on s.leading s.places (same? a b);
      differing = s.differing + length (difference_at s.places a b);
    }

-- its entry stands behind those before it, where the list has room for it
abbrev pub place_listed : SoFar → (a b list : List ℕ) → List ℕ
place_listed s a b list = sets list s.differing (entries (difference_at s.places a b))

-- the first j places
abbrev pub counted_to : SoFar → (first second : List ℕ) (j : ℕ) → SoFar
counted_to s first second j =
    record {
      places = s.places + j;
      leading = leading_to s.leading s.places first second j;
      differing = s.differing + length (differences_to s.places first second j);
    }

abbrev pub listed_to : SoFar → (first second list : List ℕ) (j : ℕ) → List ℕ
listed_to s first second list j = sets list s.differing (entries (differences_to s.places first second j))

-- all of them
abbrev pub part_counted : SoFar → (first second : List ℕ) → SoFar
part_counted s first second = counted_to s first second (places_in first)

abbrev pub part_listed : SoFar → (first second list : List ℕ) → List ℕ
part_listed s first second list = listed_to s first second list (places_in first)
