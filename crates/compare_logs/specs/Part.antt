-- Document 02, T-06: the part that is handed back, as it lies in a log that was lent.
-- Assumes nothing.
use Rattle.std.specs.Prelude.{Ok, Err, ℕ, ◌+◌, ◌<◌, ◌≤◌, cond, length, drop}
use mathlib.Core.{Path.◌≡◌, List.List}
use Rattle.std.specs.Borrow.{Bor}
use Rattle.rules.specs.{Tests.◌≤?◌}
use Rattle.rules.specs.Compare.{differences, comparison}
use Rattle.rules.specs.Compare.{Comparison}

-- the part of a log from a byte on: where it begins in memory, and its bytes
pub record Lies (log : Bor (List ℕ)) (from : ℕ) (part : Bor (List ℕ)) : Type 0 where
  pub place : part.ref_ptr ≡ (log.ref_ptr.0, log.ref_ptr.1 + from)
  pub bytes : part.now ≡ drop from log.now

-- "hand back the rest of whichever log is longer, as it lies in that log. Equal lengths hand back the empty end of the first."
abbrev pub RestOf : (first second part : Bor (List ℕ)) → Type 0
RestOf first second part =
    cond (length second.now ≤? length first.now) (Lies first (length second.now) part) (Lies second (length first.now) part)

-- of a report; where the list was full, "the empty end of the first is handed back"
abbrev pub HandedBack : Comparison → (first second part : Bor (List ℕ)) → Type 0
HandedBack (Ok told) first second part = RestOf first second part
HandedBack (Err told) first second part = Lies first (length first.now) part

-- with the report that `compare` gives for a list that holds so many places: where more differ, "the empty end of the first is handed back", and else the rest
pub record WithItsReport (report : Comparison) (first second part : Bor (List ℕ)) : Type 0 where
  pub the_end : (room : ℕ) → report ≡ comparison first.now second.now room → room < length (differences first.now second.now) → Lies first (length first.now) part
  pub the_rest : (room : ℕ) → report ≡ comparison first.now second.now room → length (differences first.now second.now) ≤ room → RestOf first second part
