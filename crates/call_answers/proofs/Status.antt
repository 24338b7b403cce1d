-- A status, an extended number and zeros, written one after the other over the front of a buffer.
-- Assumes nothing.
use mathlib.Core.{Path.{◌≡◌, refl, sym, ◌∙◌, ap}, List.{List, ◌++◌}}
use Prim.Native.Nat.{ℕ}
use native.Mathlib.Nat.{zero-add}
use lib.ListN.{length, drop}
use Rattle.rules.{specs.Bytes.{le, splice, zeros}, specs.Refusals.status_bytes}
use Rattle.bytes_base.proofs.Parts.{splice_next}

-- what is written over the front
front : (new old : List ℕ) → splice 0 new old ≡ new ++ drop (length new) old
front new old = ap (λ (n : ℕ). new ++ drop n old) (zero-add (length new))

pub status_written : (status ext rest : ℕ) (old : List ℕ) {a b c : List ℕ}
    → a ≡ splice 0 (le 2 status) old → b ≡ splice 2 (le 2 ext) a → c ≡ splice 4 (zeros rest) b
    → c ≡ splice 0 (status_bytes status ext ++ zeros rest) old
status_written status ext rest old p q r =
    r
    ∙ ap (splice 4 (zeros rest)) (q ∙ ap (splice 2 (le 2 ext)) (p ∙ front (le 2 status) old) ∙ splice_next (le 2 status) (le 2 ext) old 2 refl)
    ∙ splice_next (le 2 status ++ le 2 ext) (zeros rest) old 4 refl
    ∙ sym (front (status_bytes status ext ++ zeros rest) old)
