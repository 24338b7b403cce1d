-- What was encoded decodes to the same cabinet.
-- Assumes nothing.
use mathlib.Core.{Path.{◌≡◌, refl, ◌∙◌, ap}, Bool.true, List.{List, ◌++◌}}
use Prim.Native.Nat.{ℕ, ◌<◌, ◌+◌, ◌^◌}
use native.Mathlib.Omega.{arith}
use lib.{ListN.{length, take, drop, length-append}, Seq.{take_at, drop_at, take_all}}
use Rattle.rules.{specs.Tests.◌=?◌, specs.Record.device_of, specs.declared.Device.Device, proofs.page.Choice.if_both}
use Rattle.rules.{specs.Bytes.{le, number_at, zeros, zeros?}, specs.declared.Cabinet.Cabinet, proofs.page.Le.of_le_le}
use Rattle.device_bytes.specs.Encoding.{encode_of, decode_of}
use Rattle.device_bytes.proofs.Back as device
use Rattle.cabinet_bytes.specs.Encoding.{module_bytes, encode_cabinet, cabinet?, cabinet_of, decode_cabinet}

-- what the types say of a cabinet's fields
pub record InRange (c : Cabinet) : Type 0 where
  pub contexts : c.contexts < 256 ^ 4
  pub first : device.InRange c.first
  pub second : device.InRange c.second

module _ (c : Cabinet) (h : InRange c) where
  abbrev first : List ℕ
  first = encode_of c.first

  abbrev second : List ℕ
  second = encode_of c.second

  pub first_long : length first ≡ 128
  first_long = device.long c.first h.first

  pub second_long : length second ≡ 128
  second_long = device.long c.second h.second

  pub own_long : (named : ℕ) → length (encode_of (device_of named c)) ≡ 128
  own_long named = if_both (λ (d : Device). length (encode_of d) ≡ 128) (named =? 0) first_long second_long

  pub long : length (encode_cabinet c) ≡ 288
  unfolding encode_cabinet
  long =
      length-append (le 4 c.contexts ++ zeros 28) (first ++ second)
      ∙ ap (λ (k : ℕ). 32 + k) (length-append first second ∙ ap (λ (k : ℕ). k + length second) first_long ∙ ap (λ (k : ℕ). 128 + k) second_long)

  first_back : module_bytes 32 (encode_cabinet c) ≡ first
  unfolding encode_cabinet
  first_back = take_at first second 128 first_long

  second_back : module_bytes 160 (encode_cabinet c) ≡ second
  unfolding encode_cabinet
  second_back = ap (take 128) (drop_at first second 128 first_long) ∙ take_all 128 second (omega (arith, second_long))

  contexts_back : number_at 4 0 (encode_cabinet c) ≡ c.contexts
  unfolding encode_cabinet
  contexts_back = of_le_le 4 c.contexts h.contexts

  cabinet_back : cabinet_of (encode_cabinet c) ≡ c
  unfolding cabinet_of
  cabinet_back = λ i. record {
    contexts = contexts_back i;
    first = (ap decode_of first_back ∙ device.back c.first h.first) i;
    second = (ap decode_of second_back ∙ device.back c.second h.second) i;
  }

  middle_zero : zeros? (take 28 (drop 4 (encode_cabinet c))) ≡ true
  unfolding encode_cabinet zeros?
  middle_zero = refl

  is_cabinet : cabinet? (encode_cabinet c) ≡ true
  unfolding cabinet?
  is_cabinet = rw (long, middle_zero) refl

  pub back : decode_cabinet (encode_cabinet c) ≡ c
  unfolding decode_cabinet
  back = rw is_cabinet cabinet_back
