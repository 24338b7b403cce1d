-- Laws of a word's digits: one of them, and the loop over them.
-- Assumes nothing.
use mathlib.Core.{Path.{◌≡◌, refl, sym, ◌∙◌, ap}, Bool.{Bool, true, false}, List.List}
use Prim.Native.Nat.{ℕ, ◌≤◌, ◌<◌, ◌+◌, ◌-◌, ◌*◌}
use native.Mathlib.Numerals.{add-one}
use lib.{ListN.{length, get_or, drop, drop_of_length-le}, Seq.{drop-cons}}
use borrow.Author.Tests.{leb-true, le-leb}
use Rattle.std.specs.Prelude.{if◌then◌else◌, IsTrue}
use Rattle.std.specs.declared.option.Option.TheVariants.{None, Some}
use Rattle.rules.{specs.Tests.{◌≤?◌, ◌=?◌}, proofs.page.Choice.{and_3}}
use Rattle.images.specs.Version.{digit, fits, number_from, number_in}

module _ (n byte : ℕ) where
  -- what fits
  pub record Fitting : Type 0 where
    pub first : 48 ≤ byte
    pub last : byte ≤ 57
    pub most : n * 10 + (byte - 48) ≤ 18446744073709551615

  pub fitting : fits n byte ≡ true → Fitting
  unfolding fits
  fitting e =
      let k = and_3 (48 ≤? byte) (byte ≤? 57) (n * 10 + digit byte ≤? 18446744073709551615) e in
      record { first = leb-true 48 byte k.0; last = leb-true byte 57 k.1; most = leb-true (n * 10 + digit byte) 18446744073709551615 k.2 }

  pub does_fit : 48 ≤ byte → byte ≤ 57 → n * 10 + (byte - 48) ≤ 18446744073709551615 → fits n byte ≡ true
  unfolding fits
  does_fit first last most = rw (le-leb 48 byte first, le-leb byte 57 last, le-leb (n * 10 + (byte - 48)) 18446744073709551615 most) refl

-- at place i of a word, what is left gives what the whole does
pub step : (word : List ℕ) (n i : ℕ) → i < length word
    → number_from n (drop i word) ≡ (if fits n (get_or word i 0) then number_from (n * 10 + digit (get_or word i 0)) (drop (i + 1) word) else None)
unfolding number_from
step word n i h = rw (add-one, drop-cons word i 0 h) refl

-- behind a digit that is taken, what is left of the word goes on; behind any other there is no number
pub goes_on : (word : List ℕ) (n i : ℕ) {next : ℕ} → i < length word → IsTrue (fits n (get_or word i 0)) × (next ≡ n * 10 + digit (get_or word i 0))
    → number_from next (drop (i + 1) word) ≡ number_from n (drop i word)
goes_on word n i {next} h good =
    ap (λ (k : ℕ). number_from k (drop (i + 1) word)) good.1
    ∙ ap (λ (t : Bool). if t then number_from (n * 10 + digit (get_or word i 0)) (drop (i + 1) word) else None) (sym good.0)
    ∙ sym (step word n i h)

pub no_number : (word : List ℕ) (n i : ℕ) → i < length word → (IsTrue (fits n (get_or word i 0)) → ⊥) → None ≡ number_from n (drop i word)
no_number word n i h bad = go (fits n (get_or word i 0)) refl
  where
    go : (t : Bool) → fits n (get_or word i 0) ≡ t → None ≡ number_from n (drop i word)
    go true e = absurd (bad e)
    go false e = ap (λ (t : Bool). if t then number_from (n * 10 + digit (get_or word i 0)) (drop (i + 1) word) else None) (sym e) ∙ sym (step word n i h)

pub ends : (word : List ℕ) (n i : ℕ) → length word ≤ i → Some n ≡ number_from n (drop i word)
unfolding number_from
ends word n i h = sym (ap (number_from n) (drop_of_length-le word {i = i} h))

pub empty_word : (word : List ℕ) → (length word =? 0) ≡ true → None ≡ number_in word
unfolding number_in
empty_word word e = rw e refl

pub full_word : (word : List ℕ) → (length word =? 0) ≡ false → number_from 0 word ≡ number_in word
unfolding number_in
full_word word e = rw e refl
