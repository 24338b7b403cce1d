-- Laws of a record's words summed four a turn, all 32 of them.
-- Assumes nothing.
use mathlib.Core.{Path.{◌≡◌, refl, sym, ◌∙◌, ap}, Bool.{Bool, true, false}, List.List}
use Rattle.std.proofs.Common.{ℕ, zero, suc, ◌+◌, ◌*◌, ◌%◌, ◌^◌, ◌<◌, arith, eq-eqb, ne_eqb, eqb-true}
use lib.{ListN.{take, drop}, Seq.drop-drop}
use borrow.Author.Tests.{eqb-false}
use Rattle.rules.{specs.Bytes.{of_le, number_at, AreBytes}, specs.Image.sum_of_words, specs.Fault.sum_test, specs.Tests.◌=?◌, proofs.page.Le.drop_bytes}
use Rattle.image_record.proofs.{Laws.sum_of_one_more, Numbers.small}

-- the word behind a place is the first of those from there on
word_there : (at k : ℕ) (bytes : List ℕ) → number_at 4 0 (drop k (drop at bytes)) ≡ number_at 4 (at + k) bytes
word_there at k bytes = ap (λ (l : List ℕ). of_le (take 4 l)) (drop-drop k at bytes)

-- four numbers added in pairs, where the sums wrap
in_pairs : (a b c d : ℕ) → ((a + b) % 2 ^ 32 + (c + d) % 2 ^ 32) % 2 ^ 32 ≡ (a + (b + (c + (d + 0)))) % 2 ^ 32
in_pairs a b c d = omega arith

-- so are the four words from a place on
pub four_words : (at : ℕ) (bytes : List ℕ) {a b c d front back sum : ℕ}
    → a ≡ number_at 4 at bytes → b ≡ number_at 4 (at + 4) bytes → front ≡ (a + b) % 2 ^ 32
    → c ≡ number_at 4 (at + 8) bytes → d ≡ number_at 4 (at + 12) bytes → back ≡ (c + d) % 2 ^ 32
    → sum ≡ (front + back) % 2 ^ 32 → sum ≡ sum_of_words 4 (drop at bytes) % 2 ^ 32
unfolding sum_of_words
four_words at bytes {a} {b} {c} {d} a_is b_is front_is c_is d_is back_is sum_is =
    let eight : drop 4 (drop 4 (drop at bytes)) ≡ drop 8 (drop at bytes) = drop-drop 4 4 (drop at bytes) in
    let twelve : drop 4 (drop 8 (drop at bytes)) ≡ drop 12 (drop at bytes) = drop-drop 4 8 (drop at bytes) in
    let b_there = b_is ∙ sym (word_there at 4 bytes) in
    let c_there = c_is ∙ sym (ap (number_at 4 0) eight ∙ word_there at 8 bytes) in
    let d_there = d_is ∙ sym (ap (λ (l : List ℕ). number_at 4 0 (drop 4 l)) eight ∙ ap (number_at 4 0) twelve ∙ word_there at 12 bytes) in
    sum_is ∙ (λ i. (front_is i + back_is i) % 2 ^ 32) ∙ in_pairs a b c d
    ∙ (λ i. (a_is i + (b_there i + (c_there i + (d_there i + 0)))) % 2 ^ 32)

-- a sum of words in two parts
parts_sum : (first second : ℕ) (bytes : List ℕ) → sum_of_words (first + second) bytes ≡ sum_of_words first bytes + sum_of_words second (drop (first * 4) bytes)
unfolding sum_of_words
parts_sum zero second bytes =
    let all : zero + second ≡ second = omega arith in
    ap (λ (words : ℕ). sum_of_words words bytes) all ∙ omega arith
parts_sum (suc first) second bytes =
    let one : suc first + second ≡ suc (first + second) = omega arith in
    let place : 4 + first * 4 ≡ suc first * 4 = omega arith in
    let later : sum_of_words second (drop (first * 4) (drop 4 bytes)) ≡ sum_of_words second (drop (suc first * 4) bytes) =
    ap (sum_of_words second) (drop-drop (first * 4) 4 bytes ∙ ap (λ (at : ℕ). drop at bytes) place) in
    ap (λ (words : ℕ). sum_of_words words bytes) one ∙ omega (arith, parts_sum first second (drop 4 bytes), later)

-- one turn more, where the sums wrap
pub turn_more : (turn : ℕ) (bytes : List ℕ) {sum row next : ℕ} → sum ≡ sum_of_words (turn * 4) bytes % 2 ^ 32
    → row ≡ sum_of_words 4 (drop (turn * 16) bytes) % 2 ^ 32 → next ≡ (sum + row) % 2 ^ 32 → next ≡ sum_of_words ((turn + 1) * 4) bytes % 2 ^ 32
turn_more turn bytes sum_is row_is next_is =
    let words : (turn + 1) * 4 ≡ turn * 4 + 4 = omega arith in
    let place : turn * 16 ≡ turn * 4 * 4 = omega arith in
    let row_there = row_is ∙ ap (λ (at : ℕ). sum_of_words 4 (drop at bytes) % 2 ^ 32) place in
    let both = ap (λ (k : ℕ). sum_of_words k bytes) words ∙ parts_sum (turn * 4) 4 bytes in
    omega (arith, sum_is, row_there, next_is, both)

-- two tests are the same where each says what the other does
pub same_test : (a b x y : ℕ) → (a ≡ b → x ≡ y) → (x ≡ y → a ≡ b) → (a =? b) ≡ (x =? y)
same_test a b x y to back = go (x =? y) refl
  where
    go : (t : Bool) → (x =? y) ≡ t → (a =? b) ≡ t
    go true e = eq-eqb a b (back (eqb-true x y e))
    go false e = ne_eqb a b (λ q. eqb-false x y e (to q))

-- all the words of a record come to twice its last one exactly where that is the sum of the 31 before it
pub twice_tests : (bytes : List ℕ) {all twice : ℕ} → AreBytes bytes → all ≡ sum_of_words 32 bytes % 2 ^ 32
    → twice ≡ (number_at 4 124 bytes + number_at 4 124 bytes) % 2 ^ 32 → (all =? twice) ≡ sum_test bytes
twice_tests bytes {all} {twice} are all_is twice_is =
    let fits : number_at 4 124 bytes < 2 ^ 32 = small 4 (drop 124 bytes) (drop_bytes 124 bytes are) in
    let one = sum_of_one_more 31 bytes in
    same_test all twice (number_at 4 124 bytes) (sum_of_words 31 bytes % 2 ^ 32)
    (λ e. omega (arith, e, fits, one, all_is, twice_is))
    (λ e. omega (arith, e, fits, one, all_is, twice_is))
