-- Bytes that are no record decode to a record that is not possible, however many contexts are given out; so a possible record came from 128 bytes.
-- Assumes nothing.
use mathlib.Core.{Path.{◌≡◌, refl, sym, ◌∙◌, ap}, Bool.{Bool, true, false, false≢true}, List.List}
use Prim.Native.Nat.{ℕ}
use native.Mathlib.Omega.{arith}
use lib.ListN.{length}
use borrow.Author.Tests.{le-leb}
use Rattle.rules.{specs.Record.{possible, possible_parts, possible_transfer}, specs.Adopt.{possible_before, kept_before}}
use Rattle.device_bytes.specs.Encoding.{encoded_size, record?, impossible, decode_of}
use Rattle.device_bytes.proofs.Fine.{fine}

pub none_possible : (given : ℕ) → possible given impossible ≡ false
unfolding possible possible_parts possible_transfer impossible
none_possible given = rw (le-leb 0 given (omega arith)) refl

pub no_record : (given : ℕ) (s : List ℕ) → record? s ≡ false → possible given (decode_of s) ≡ false
unfolding decode_of
no_record given s e = rw e (none_possible given)

pub from_record : (given : ℕ) (s : List ℕ) → possible given (decode_of s) ≡ true → record? s ≡ true
from_record given s e = go (record? s) refl
  where
    go : (t : Bool) → record? s ≡ t → t ≡ true
    go true p = refl
    go false p = absurd (false≢true (sym (no_record given s p) ∙ e))

none_before : kept_before impossible ≡ false
unfolding kept_before possible_parts possible_transfer possible_before impossible
none_before = refl

decoded : (s : List ℕ) → record? s ≡ false → decode_of s ≡ impossible
unfolding decode_of
decoded s e = rw e

pub before_whole : (s : List ℕ) → kept_before (decode_of s) ≡ true → length s ≡ encoded_size
before_whole s e = (fine s (go (record? s) refl)).long
  where
    go : (t : Bool) → record? s ≡ t → record? s ≡ true
    go true p = p
    go false p = absurd (false≢true (sym none_before ∙ sym (ap kept_before (decoded s p)) ∙ e))

pub possible_whole : (given : ℕ) (s : List ℕ) → possible given (decode_of s) ≡ true → length s ≡ encoded_size
possible_whole given s e = (fine s (from_record given s e)).long
