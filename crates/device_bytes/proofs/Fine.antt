-- What the test of a record's bytes says of them.
-- Assumes nothing.
use mathlib.Core.{Path.◌≡◌, Bool.true, List.List}
use Prim.Native.Nat.{ℕ, ◌≤◌}
use lib.ListN.{length, take, drop}
use borrow.Author.Tests.{eqb-true, leb-true}
use Rattle.rules.{specs.Bytes.{number_at, zeros?}, proofs.page.Choice.and_true}
use Rattle.device_bytes.specs.Encoding.{record?}

pub record Fine (s : List ℕ) : Type 0 where
  pub long : length s ≡ 128
  pub phase : number_at 1 0 s ≤ 4
  pub enabled : number_at 1 1 s ≤ 1
  pub locked : number_at 1 2 s ≤ 1
  pub frozen : number_at 1 3 s ≤ 1
  pub unused : number_at 1 33 s ≡ 0
  pub between : zeros? (take 18 (drop 46 s)) ≡ true
  pub after : zeros? (drop 96 s) ≡ true

pub fine : (s : List ℕ) → record? s ≡ true → Fine s
unfolding record?
fine s e =
    let a = and_true _ _ e in
    let b = and_true _ _ a.0 in
    let d = and_true _ _ b.0 in
    let f = and_true _ _ d.0 in
    let g = and_true _ _ f.0 in
    let h = and_true _ _ g.0 in
    let k = and_true _ _ h.0 in
    record {
      long = eqb-true (length s) 128 k.0;
      phase = leb-true (number_at 1 0 s) 4 k.1;
      enabled = leb-true (number_at 1 1 s) 1 h.1;
      locked = leb-true (number_at 1 2 s) 1 g.1;
      frozen = leb-true (number_at 1 3 s) 1 f.1;
      unused = eqb-true (number_at 1 33 s) 0 d.1;
      between = b.1;
      after = a.1;
    }
