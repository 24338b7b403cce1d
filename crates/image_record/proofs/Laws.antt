-- Laws of a record's sum.
-- Assumes nothing.
use mathlib.Core.{Path.{◌≡◌, ◌∙◌, ap}, List.List}
use Rattle.std.proofs.Common.{ℕ, zero, suc, ◌+◌, ◌*◌, ◌%◌, ◌^◌}
use native.Mathlib.{Nat.mod-add-mod, Numerals.add-one, Omega.arith}
use lib.{ListN.{take, drop}, Seq.drop-drop}
use Rattle.rules.{specs.Bytes.{of_le, number_at}, specs.Image.{sum_of_words}}

-- the sum of one word more is the sum so far and that word
pub sum_of_one_more : (words : ℕ) (bytes : List ℕ)
    → sum_of_words (suc words) bytes ≡ sum_of_words words bytes + number_at 4 (words * 4) bytes
unfolding sum_of_words
sum_of_one_more zero bytes = omega arith
sum_of_one_more (suc words) bytes =
    let place : 4 + words * 4 ≡ suc words * 4 = omega arith in
    let word : number_at 4 (words * 4) (drop 4 bytes) ≡ number_at 4 (suc words * 4) bytes =
    ap (λ (l : List ℕ). of_le (take 4 l)) (drop-drop (words * 4) 4 bytes ∙ ap (λ (at : ℕ). drop at bytes) place) in
    omega (arith, sum_of_one_more words (drop 4 bytes), word)

-- the same, where the sums wrap at 32 bits
pub wrapping_sum_of_one_more : (sum word words next : ℕ) (bytes : List ℕ)
    → sum ≡ sum_of_words words bytes % 2 ^ 32 → word ≡ number_at 4 (words * 4) bytes → next ≡ (sum + word) % 2 ^ 32
    → next ≡ sum_of_words (words + 1) bytes % 2 ^ 32
wrapping_sum_of_one_more sum word words next bytes s w n = rw (add-one, sum_of_one_more, n, s, w, mod-add-mod)
