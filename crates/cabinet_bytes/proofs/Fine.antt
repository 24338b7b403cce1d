-- What the test of a cabinet's bytes says of them.
-- Assumes nothing.
use mathlib.Core.{Path.◌≡◌, Bool.true, List.List}
use Prim.Native.Nat.{ℕ}
use lib.ListN.{length, take, drop}
use borrow.Author.Tests.{eqb-true}
use Rattle.rules.{specs.Bytes.zeros?, proofs.page.Choice.and_true}
use Rattle.cabinet_bytes.specs.Encoding.{cabinet?}

pub record Fine (s : List ℕ) : Type 0 where
  pub long : length s ≡ 288
  pub between : zeros? (take 28 (drop 4 s)) ≡ true

pub fine : (s : List ℕ) → cabinet? s ≡ true → Fine s
unfolding cabinet?
fine s e = let q = and_true _ _ e in record { long = eqb-true (length s) 288 q.0; between = q.1 }
