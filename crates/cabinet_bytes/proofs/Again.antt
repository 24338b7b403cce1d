-- What was decoded encodes to the same bytes: a cabinet's bytes are the only ones that say it.
-- Assumes nothing.
use mathlib.Core.{Path.{◌≡◌, refl, sym, ◌∙◌, ap}, Bool.true, List.{List, ◌++◌}}
use Prim.Native.Nat.{ℕ, ◌≤◌}
use native.Mathlib.Omega.{arith}
use lib.{ListN.{length, take, drop, length-drop, take-append-drop}, Seq.{take_all, drop-drop, length-take-le}}
use Rattle.rules.specs.Bytes.{le, number_at, zeros}
use Rattle.bytes_numbers.proofs.Bytes.{Bytes, bytes_drop, bytes_take}
use Rattle.device_bytes.specs.Encoding.{encode_of, record?, decode_of}
use Rattle.device_bytes.proofs.Again as device
use Rattle.cabinet_bytes.specs.Encoding.{module_bytes, encode_cabinet, cabinet?, cabinet_of, decode_cabinet}
use Rattle.cabinet_bytes.proofs.Fine.{fine}

module _ (s : List ℕ) (bytes : Bytes s) where
  -- a module's bytes are the only ones that say its record
  pub module_again : (place : ℕ) → record? (module_bytes place s) ≡ true → encode_of (decode_of (module_bytes place s)) ≡ module_bytes place s
  module_again place e = device.again (module_bytes place s) (bytes_take 128 (drop place s) (bytes_drop s place bytes)) e

  -- the zeros between
  pub between : cabinet? s ≡ true → take 28 (drop 4 s) ≡ zeros 28
  between e =
      let f = fine s e in
      let long : length (take 28 (drop 4 s)) ≡ 28 = length-take-le 28 (drop 4 s) (rw length-drop (omega (arith, f.long))) in
      sym (ap zeros (sym long) ∙ device.zeros_are (take 28 (drop 4 s)) f.between)

  contexts_again : 4 ≤ length s → le 4 (number_at 4 0 s) ≡ take 4 s
  contexts_again h = ap (λ (k : ℕ). le k (number_at 4 0 s)) (sym (length-take-le 4 s h)) ∙ device.le_of_le (take 4 s) (bytes_take 4 s bytes)

  all_joined : cabinet? s ≡ true → record? (module_bytes 32 s) ≡ true → record? (module_bytes 160 s) ≡ true → encode_cabinet (cabinet_of s) ≡ s
  unfolding encode_cabinet cabinet_of
  all_joined e p q =
      let f = fine s e in
      let last : take 128 (drop 160 s) ≡ drop 160 s = take_all 128 (drop 160 s) (rw length-drop (omega (arith, f.long))) in
      let modules : take 128 (drop 32 s) ++ drop 160 s ≡ drop 32 s = ap (λ (l : List ℕ). take 128 (drop 32 s) ++ l) (sym (drop-drop 128 32 s)) ∙ take-append-drop 128 (drop 32 s) in
      (λ i. contexts_again (omega (arith, f.long)) i ++ sym (between e) i ++ (module_again 32 p i ++ (module_again 160 q ∙ last) i))
      ∙ (λ i. device.also 0 4 28 s refl i ++ modules i)
      ∙ take-append-drop 32 s

  pub again : cabinet? s ≡ true → record? (module_bytes 32 s) ≡ true → record? (module_bytes 160 s) ≡ true → encode_cabinet (decode_cabinet s) ≡ s
  unfolding decode_cabinet
  again e p q = rw e (all_joined e p q)
