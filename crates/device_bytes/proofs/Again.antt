-- What was decoded encodes to the same bytes: a record's bytes are the only ones that say it.
-- Assumes nothing.
use mathlib.Core.{Path.{◌≡◌, refl, sym, ◌∙◌, ap}, Bool.true, List.{List, [], ◌∷◌, ◌++◌}}
use Prim.Native.Nat.{ℕ, zero, suc, ◌≤◌, ◌<◌, ◌+◌, ◌*◌, ◌/◌, ◌%◌}
use native.Mathlib.Omega.{arith}
use lib.{Dec.eqb, ListN.{length, take, drop, length-drop, take-append-drop}, Seq.{take-add, drop-drop, length-take-le}}
use borrow.Author.Tests.{eqb-true}
use Rattle.rules.{specs.Tests.◌=?◌, specs.Bytes.{le, of_le, number_at, zeros, zeros?, splice}, specs.Record.phase_number, specs.Refusals.one_attempt_more}
use Rattle.rules.{specs.declared.Device.Device, proofs.page.Choice.and_true}
use Rattle.bytes_numbers.proofs.Bytes.{Bytes, bytes_drop, bytes_take}
use Rattle.device_bytes.specs.Encoding.{flag, encode_of, phase_of, record?, record_of, decode_of}
use Rattle.device_bytes.proofs.Fine.{Fine, fine}

-- what a list's number is written as is the list
pub le_of_le : (l : List ℕ) → Bytes l → le (length l) (of_le l) ≡ l
le_of_le [] h = refl
le_of_le (x ∷ xs) h =
    let small : x < 256 = (h 0).fits in
    let low : (x + 256 * of_le xs) % 256 ≡ x = omega arith in
    let high : (x + 256 * of_le xs) / 256 ≡ of_le xs = omega arith in
    rw (low, high, le_of_le xs (λ (k : ℕ). h (suc k))) refl

-- zeros are what tests as zeros
pub zeros_are : (l : List ℕ) → zeros? l ≡ true → zeros (length l) ≡ l
unfolding zeros?
zeros_are [] e = refl
zeros_are (x ∷ xs) e =
    let both = and_true (eqb x 0) (zeros? xs) e in
    λ i. sym (eqb-true x 0 both.0) i ∷ zeros_are xs both.1 i

phase_number_law : (n : ℕ) → n ≤ 4 → phase_number (phase_of n) ≡ n
phase_number_law zero h = refl
phase_number_law (suc zero) h = refl
phase_number_law (suc (suc zero)) h = refl
phase_number_law (suc (suc (suc zero))) h = refl
phase_number_law (suc (suc (suc (suc zero)))) h = refl
phase_number_law (suc (suc (suc (suc (suc n))))) h = absurd (omega arith)

flag_number : (n : ℕ) → n ≤ 1 → flag (n =? 1) ≡ n
flag_number zero h = refl
flag_number (suc zero) h = refl
flag_number (suc (suc n)) h = absurd (omega arith)

-- a run of places that the next places go on
pub also : (at n k : ℕ) (s : List ℕ) {x : List ℕ} → x ≡ take n (drop at s) → x ++ take k (drop (at + n) s) ≡ take (n + k) (drop at s)
also at n k s e =
    ap (λ (l : List ℕ). l ++ take k (drop (at + n) s)) e
    ∙ ap (λ (l : List ℕ). take n (drop at s) ++ take k l) (sym (drop-drop n at s))
    ∙ sym (take-add n k (drop at s))

module _ (s : List ℕ) (bytes : Bytes s) (f : Fine s) where
  part_long : (k at : ℕ) → at + k ≤ length s → length (take k (drop at s)) ≡ k
  part_long k at h = length-take-le k (drop at s) (rw length-drop (omega arith))

  field : (k at : ℕ) → at + k ≤ 128 → le k (number_at k at s) ≡ take k (drop at s)
  field k at h =
      let inside : at + k ≤ length s = omega (arith, f.long) in
      ap (λ (n : ℕ). le n (number_at k at s)) (sym (part_long k at inside)) ∙ le_of_le (take k (drop at s)) (bytes_take k (drop at s) (bytes_drop s at bytes))

  byte_of : (at : ℕ) {n : ℕ} → at + 1 ≤ 128 → n ≡ number_at 1 at s → le 1 n ≡ take 1 (drop at s)
  byte_of at h e = ap (le 1) e ∙ field 1 at h

  middle : zeros 18 ≡ take 18 (drop 46 s)
  middle = ap zeros (sym (part_long 18 46 (omega (arith, f.long)))) ∙ zeros_are (take 18 (drop 46 s)) f.between

  tail : zeros 32 ≡ drop 96 s
  tail =
      let left : length (drop 96 s) ≡ 32 = rw length-drop (omega (arith, f.long)) in
      ap zeros (sym left) ∙ zeros_are (drop 96 s) f.after

  fields_joined : encode_of (record_of s)
      ≡ (take 1 s ++ take 1 (drop 1 s) ++ take 1 (drop 2 s) ++ take 1 (drop 3 s) ++ take 1 (drop 4 s) ++ take 1 (drop 5 s) ++ take 2 (drop 6 s))
      ++ (take 4 (drop 8 s) ++ take 4 (drop 12 s) ++ take 8 (drop 16 s) ++ take 8 (drop 24 s))
      ++ (take 1 (drop 32 s) ++ take 1 (drop 33 s) ++ take 2 (drop 34 s) ++ take 2 (drop 36 s))
      ++ (take 1 (drop 38 s) ++ take 1 (drop 39 s))
      ++ (take 1 (drop 40 s) ++ take 1 (drop 41 s) ++ take 2 (drop 42 s) ++ take 2 (drop 44 s))
      ++ take 18 (drop 46 s)
      ++ (take 32 (drop 64 s) ++ drop 96 s)
  unfolding encode_of record_of
  fields_joined = λ i.
      (byte_of 0 (omega arith) (phase_number_law (number_at 1 0 s) f.phase) i
      ++ byte_of 1 (omega arith) (flag_number (number_at 1 1 s) f.enabled) i
      ++ byte_of 2 (omega arith) (flag_number (number_at 1 2 s) f.locked) i
      ++ byte_of 3 (omega arith) (flag_number (number_at 1 3 s) f.frozen) i
      ++ field 1 4 (omega arith) i ++ field 1 5 (omega arith) i ++ field 2 6 (omega arith) i)
      ++ (field 4 8 (omega arith) i ++ field 4 12 (omega arith) i ++ field 8 16 (omega arith) i ++ field 8 24 (omega arith) i)
      ++ (field 1 32 (omega arith) i ++ byte_of 33 (omega arith) (sym f.unused) i ++ field 2 34 (omega arith) i ++ field 2 36 (omega arith) i)
      ++ (field 1 38 (omega arith) i ++ field 1 39 (omega arith) i)
      ++ (field 1 40 (omega arith) i ++ field 1 41 (omega arith) i ++ field 2 42 (omega arith) i ++ field 2 44 (omega arith) i)
      ++ middle i
      ++ (take 32 (drop 64 s) ++ tail i)

  parts_joined : encode_of (record_of s) ≡ take 8 s ++ take 24 (drop 8 s) ++ take 6 (drop 32 s) ++ take 2 (drop 38 s) ++ take 6 (drop 40 s) ++ take 18 (drop 46 s) ++ (take 32 (drop 64 s) ++ drop 96 s)
  parts_joined =
      fields_joined
      ∙ (λ i. also 0 6 2 s (also 0 5 1 s (also 0 4 1 s (also 0 3 1 s (also 0 2 1 s (also 0 1 1 s refl))))) i
      ++ also 8 16 8 s (also 8 8 8 s (also 8 4 4 s refl)) i
      ++ also 32 4 2 s (also 32 2 2 s (also 32 1 1 s refl)) i
      ++ also 38 1 1 s refl i
      ++ also 40 4 2 s (also 40 2 2 s (also 40 1 1 s refl)) i
      ++ take 18 (drop 46 s)
      ++ (take 32 (drop 64 s) ++ drop 96 s))

  all_joined : encode_of (record_of s) ≡ s
  all_joined =
      parts_joined
      ∙ (λ i. also 0 46 18 s (also 0 40 6 s (also 0 38 2 s (also 0 32 6 s (also 0 8 24 s refl)))) i
      ++ (ap (λ (l : List ℕ). take 32 (drop 64 s) ++ l) (sym (drop-drop 32 64 s)) ∙ take-append-drop 32 (drop 64 s)) i)
      ∙ take-append-drop 64 s

pub again : (s : List ℕ) → Bytes s → record? s ≡ true → encode_of (decode_of s) ≡ s
unfolding decode_of
again s bytes e = rw e (all_joined s bytes (fine s e))

-- one attempt more is one byte's change, of the record and so of its bytes
counted : (d : Device) → encode_of (one_attempt_more d) ≡ splice 4 (le 1 (d.security.attempts + 1)) (encode_of d)
unfolding encode_of
counted d = refl

pub one_byte : (s : List ℕ) → Bytes s → record? s ≡ true
    → encode_of (one_attempt_more (decode_of s)) ≡ splice 4 (le 1 ((decode_of s).security.attempts + 1)) s
one_byte s bytes e = counted (decode_of s) ∙ ap (splice 4 (le 1 ((decode_of s).security.attempts + 1))) (again s bytes e)
