-- `compare_places::SoFar::with_whole` meets its contract: what was counted and listed so far is that of the first j places.
-- Assumes nothing.
use mathlib.Core.Path.{◌≡◌}
use Prim.Native.Nat.{◌≤◌, ◌-◌}
use Rattle.compare_places.specs.SoFar.{counted_to, listed_to}
use Rattle.compare_places.proofs.SoFar.with_whole.Given as goal

abbrev pub invariant-loop-j : goal.invariant-loop-j
invariant-loop-j l = (l.counted ≡ counted_to l.initial.counted l.first l.second l.j) × (l.list ≡ listed_to l.initial.counted l.first l.second l.initial.list l.j)
