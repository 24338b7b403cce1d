-- Document 02, T-02, of one record: what is made is good and carries its part, and what a good one carries makes it again.
-- Assumes nothing.
use mathlib.Core.{Path.{◌≡◌, refl, sym, ◌∙◌, ap}, Bool.{true, ◌&&◌}, List.{List, ◌++◌, append_assoc}}
use Prim.Native.Nat.{ℕ, zero, suc, ◌≤◌, ◌<◌, ◌+◌, ◌*◌, ◌^◌, ◌%◌}
use native.Mathlib.Omega.{arith}
use lib.ListN.{length, take, drop, length-append, length-drop, take-append-drop}
use lib.Seq.{take-append-le, drop-append-le, drop-drop, take-add, drop_at, take_at, take_all, length-take-le}
use borrow.Author.Tests.{eqb-true, eq-eqb}
use Rattle.rules.specs.{Tests.◌=?◌, Bytes.{le, of_le, number_at, AreBytes}}
use Rattle.rules.specs.Image.{payload_field, bytes_in, sum_of_words, record_sum, good_record}
use Rattle.rules.specs.Made.{unsummed, made_record}
use Rattle.rules.proofs.{page.Choice.and_true, page.Le.{of_le_le, append_bytes, le_bytes, read_again}}

-- the sum of words is that of the bytes that they are in, whatever comes behind
pub sum_of_front : (words : ℕ) (bytes more : List ℕ) → words * 4 ≤ length bytes → sum_of_words words (bytes ++ more) ≡ sum_of_words words bytes
unfolding sum_of_words
sum_of_front zero bytes more h = refl
sum_of_front (suc words) bytes more h =
    let room : 4 ≤ length bytes = omega arith in
    let rest : words * 4 ≤ length (drop 4 bytes) = rw length-drop (omega arith) in
    let word : number_at 4 0 (bytes ++ more) ≡ number_at 4 0 bytes = ap of_le (take-append-le 4 bytes more room) in
    let others : sum_of_words words (drop 4 (bytes ++ more)) ≡ sum_of_words words (drop 4 bytes) =
    ap (sum_of_words words) (drop-append-le 4 bytes more room) ∙ sum_of_front words (drop 4 bytes) more rest in
    λ k. word k + others k

-- a record made from a part of 112 bytes
module _ (i n version : ℕ) (part : List ℕ) (whole : length part ≡ 112) where
  pub unsummed_long : length (unsummed i n version part) ≡ 124
  unsummed_long = rw whole refl

  pub made_long : length (made_record i n version part) ≡ 128
  unfolding made_record
  made_long = length-append (unsummed i n version part) _ ∙ ap (λ (k : ℕ). k + 4) unsummed_long

  made_sum : record_sum (made_record i n version part) ≡ record_sum (unsummed i n version part)
  unfolding made_record
  made_sum =
      ap (λ (sum : ℕ). sum % 2 ^ 32)
      (sum_of_front 31 (unsummed i n version part) (le 4 (record_sum (unsummed i n version part))) (rw unsummed_long (omega arith)))

  -- what stands behind the record does not matter to its fields
  module _ (more : List ℕ) where
    pub version_in : version < 256 ^ 8 → number_at 8 4 (made_record i n version part ++ more) ≡ version
    unfolding made_record
    version_in h = of_le_le 8 version h

    pub part_in : bytes_in payload_field (made_record i n version part ++ more) ≡ part
    unfolding made_record
    part_in = ap (take 112) (append_assoc part (le 4 (record_sum (unsummed i n version part))) more) ∙ take_at part _ 112 whole

  made_number : i < 256 ^ 2 → number_at 2 0 (made_record i n version part) ≡ i
  unfolding made_record
  made_number h = of_le_le 2 i h

  made_count : n < 256 ^ 2 → number_at 2 2 (made_record i n version part) ≡ n
  unfolding made_record
  made_count h = of_le_le 2 n h

  made_version : version < 256 ^ 8 → number_at 8 4 (made_record i n version part) ≡ version
  unfolding made_record
  made_version h = of_le_le 8 version h

  made_sum_is : number_at 4 124 (made_record i n version part) ≡ record_sum (made_record i n version part)
  unfolding made_record
  made_sum_is =
      let sum : ℕ = record_sum (unsummed i n version part) in
      let fits : sum < 256 ^ 4 = omega arith in
      ap (λ (l : List ℕ). of_le (take 4 l)) (drop_at (unsummed i n version part) (le 4 sum) 124 unsummed_long)
      ∙ of_le_le 4 sum fits ∙ sym made_sum

  pub made_good : i < 256 ^ 2 → n < 256 ^ 2 → version < 256 ^ 8 → good_record i n version (made_record i n version part) ≡ true
  unfolding good_record
  made_good few count fits = rw (eq-eqb _ i (made_number few), eq-eqb _ n (made_count count), eq-eqb _ version (made_version fits), eq-eqb _ _ made_sum_is) refl

  pub made_bytes : AreBytes part → AreBytes (made_record i n version part)
  unfolding made_record
  made_bytes are =
      append_bytes (unsummed i n version part) (le 4 (record_sum (unsummed i n version part)))
      (append_bytes (le 2 i) (le 2 n ++ (le 8 version ++ part)) (le_bytes 2 i)
      (append_bytes (le 2 n) (le 8 version ++ part) (le_bytes 2 n) (append_bytes (le 8 version) part (le_bytes 8 version) are)))
      (le_bytes 4 (record_sum (unsummed i n version part)))

-- what a good record carries makes it again
module _ (i n version : ℕ) (bytes : List ℕ) (long : length bytes ≡ 128) (are : AreBytes bytes) (good : good_record i n version bytes ≡ true) where
  -- the record, field by field
  four_fields : (number_at 2 0 bytes ≡ i) × (number_at 2 2 bytes ≡ n) × (number_at 8 4 bytes ≡ version) × (number_at 4 124 bytes ≡ record_sum bytes)
  unfolding good_record
  four_fields =
      let d = and_true ((number_at 2 0 bytes =? i) && (number_at 2 2 bytes =? n) && (number_at 8 4 bytes =? version)) (number_at 4 124 bytes =? record_sum bytes) good in
      let c = and_true ((number_at 2 0 bytes =? i) && (number_at 2 2 bytes =? n)) (number_at 8 4 bytes =? version) d.0 in
      let b = and_true (number_at 2 0 bytes =? i) (number_at 2 2 bytes =? n) c.0 in (
        eqb-true (number_at 2 0 bytes) i b.0,
        eqb-true (number_at 2 2 bytes) n b.1,
        eqb-true (number_at 8 4 bytes) version c.1,
        eqb-true (number_at 4 124 bytes) (record_sum bytes) d.1,
      )

  unsummed_again : unsummed i n version (bytes_in payload_field bytes) ≡ take 124 bytes
  unsummed_again =
      let number : le 2 i ≡ take 2 (drop 0 bytes) = read_again 2 0 bytes (omega arith) are four_fields.0 in
      let count : le 2 n ≡ take 2 (drop 2 bytes) = read_again 2 2 bytes (omega arith) are four_fields.1 in
      let own : le 8 version ≡ take 8 (drop 4 bytes) = read_again 8 4 bytes (omega arith) are four_fields.2 in
      (λ k. number k ++ (count k ++ (own k ++ take 112 (drop 12 bytes))))
      ∙ ap (λ (l : List ℕ). take 2 bytes ++ (take 2 (drop 2 bytes) ++ l)) (next 8 112 4)
      ∙ ap (λ (l : List ℕ). take 2 bytes ++ l) (next 2 120 2)
      ∙ next 2 122 0
    where
      next : (k m at : ℕ) → take k (drop at bytes) ++ take m (drop (at + k) bytes) ≡ take (k + m) (drop at bytes)
      next k m at = ap (λ (l : List ℕ). take k (drop at bytes) ++ take m l) (sym (drop-drop k at bytes)) ∙ sym (take-add k m (drop at bytes))

  pub record_again : made_record i n version (bytes_in payload_field bytes) ≡ bytes
  unfolding made_record
  record_again =
      let front : length (take 124 bytes) ≡ 124 = length-take-le 124 bytes (omega arith) in
      let sums : sum_of_words 31 (take 124 bytes) ≡ sum_of_words 31 bytes =
      sym (sum_of_front 31 (take 124 bytes) (drop 124 bytes) (rw front (omega arith))) ∙ ap (sum_of_words 31) (take-append-drop 124 bytes) in
      let sum : le 4 (record_sum bytes) ≡ take 4 (drop 124 bytes) = read_again 4 124 bytes (omega arith) are four_fields.3 in
      ap (λ (l : List ℕ). l ++ le 4 (record_sum l)) unsummed_again
      ∙ ap (λ (s : ℕ). take 124 bytes ++ le 4 (s % 2 ^ 32)) sums
      ∙ ap (λ (l : List ℕ). take 124 bytes ++ l) sum
      ∙ sym (take-add 124 4 bytes) ∙ take_all 128 bytes (omega arith)
