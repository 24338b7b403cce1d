-- The table by its indexes: what holds of every line, each at its own index, and of an index that the table lacks, holds at every index.
-- Assumes nothing.
use Prim.Native.Nat.{ℕ}
use mathlib.Core.{Path.{◌≡◌, refl, sym, subst}, Bool.{Bool, true, false}, List.{List, [], ◌∷◌}}
use borrow.Author.Tests.{eqb-true}
use Rattle.std.specs.Prelude.{if◌then◌else◌}
use Rattle.rules.{specs.Tests.{◌=?◌}, specs.Table.{unserved, look_up}, specs.declared.Row.Row}

abbrev pub AllAt : (ℕ → Row → Type 0) → List (ℕ × Row) → Type 0
AllAt P [] = Unit {0}
AllAt P (line ∷ lines) = P line.0 line.1 × AllAt P lines

-- no line has the index
abbrev pub NotIn : (index : ℕ) → List (ℕ × Row) → Type 0
NotIn index [] = Unit {0}
NotIn index (line ∷ lines) = ((index =? line.0) ≡ false) × NotIn index lines

pub looked_at : (P : ℕ → Row → Type 0) (index : ℕ) (lines : List (ℕ × Row)) → AllAt P lines → (NotIn index lines → P index unserved)
    → P index (look_up index lines)
looked_at P index [] all lacking = lacking tt
looked_at P index (line ∷ lines) all lacking = go (index =? line.0) refl (λ e. looked_at P index lines all.1 (λ n. lacking (e, n)))
  where
    go : (b : Bool) → (index =? line.0) ≡ b → ((index =? line.0) ≡ false → P index (look_up index lines))
        → P index (if b then line.1 else look_up index lines)
    go true e later = subst (λ (i : ℕ). P i line.1) (sym (eqb-true index line.0 e)) all.0
    go false e later = later e
