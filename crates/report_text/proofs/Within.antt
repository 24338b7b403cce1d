-- Texts written one after the other, each within its room: the two at once are within the two rooms.
-- Assumes nothing.
use mathlib.Core.{Path.{sym, ◌∙◌, ap}, List.{List, [], ◌++◌}}
use Prim.Native.Nat.{ℕ, ◌+◌, ◌≤◌}
use native.Mathlib.{Nat.add-zero, Omega.arith}
use lib.ListN.{length, take, drop, take-append-drop}
use Rattle.text.{specs.Wrote.{Wrote, WroteWithin}, proofs.Writing.and_then}

-- what was written takes its own length
pub exactly : {old text new : List ℕ} {at next : ℕ} → Wrote old at text new next → WroteWithin (length text) old at text new next
exactly w = record { within = omega (arith, w.next_is); wrote = w }

pub then_within : {old mid new a b : List ℕ} {at i j most more : ℕ} → at ≤ length old → WroteWithin most old at a mid i → WroteWithin more mid i b new j
    → WroteWithin (most + more) old at (a ++ b) new j
then_within h p q = record { within = omega (arith, p.within, q.within); wrote = and_then h p.wrote q.wrote }

-- nothing was written
pub nothing_yet : (old : List ℕ) (at : ℕ) → WroteWithin 0 old at [] old at
nothing_yet old at =
    record {
      within = omega arith;
      wrote = record { next_is = omega arith; new_is = sym (ap (λ (n : ℕ). take at old ++ drop n old) (add-zero at) ∙ take-append-drop at old) };
    }
