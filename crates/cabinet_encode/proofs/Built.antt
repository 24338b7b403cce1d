-- What the stores make: parts that are lent come back with a module's bytes in them, each right behind the one before.
-- Assumes nothing.
use mathlib.Core.{Path.{◌≡◌, refl, ◌∙◌, ap}, List.{List, ◌++◌, append_assoc}}
use Prim.Native.Nat.{ℕ, ◌≤◌, ◌+◌, ◌-◌}
use native.Mathlib.Omega.{arith}
use lib.ListN.{length, length-append}
use borrow.Rule.Slice.PartMut.{put_mid}
use Rattle.rules.{specs.Bytes.{le, zeros, splice}, specs.Record.device_of, specs.declared.Cabinet.Cabinet, specs.declared.Device.Device}
use Rattle.bytes_base.proofs.Parts.{lent, lent_as, copy_whole}
use Rattle.device_bytes.specs.Encoding.{encode_of}
use Rattle.device_encode.proofs.Built.{Placed, then}
use Rattle.cabinet_bytes.{specs.Encoding.{module_place, encode_cabinet, Around}, proofs.Back.{InRange, first_long, second_long, own_long}, proofs.Placed.placed}

length_of : (x y : List ℕ) {m n : ℕ} → length x ≡ m → length y ≡ n → length (x ++ y) ≡ m + n
length_of x y {m = m} e f = length-append x y ∙ ap (λ (k : ℕ). k + length y) e ∙ ap (λ (k : ℕ). m + k) f

-- all of the 288 bytes
pub built : (c : Cabinet) → InRange c → (old : List ℕ) {a b part part' : List ℕ} → length old ≡ 288
    → a ≡ splice 0 (le 4 c.contexts) old → b ≡ splice 4 (zeros 28) a → part ≡ encode_of c.first → part' ≡ encode_of c.second
    → put_mid 160 128 (put_mid 32 128 b part) part' ≡ encode_cabinet c
unfolding encode_cabinet
built c h old {a = a} {b = b} {part = part} {part' = part'} whole p q e f =
    let first : List ℕ = encode_of c.first in
    let second : List ℕ = encode_of c.second in
    let numbers : List ℕ = le 4 c.contexts ++ zeros 28 in
    let long = first_long c h in
    let long' = second_long c h in
    let lent_first : put_mid 32 128 b part ≡ splice 32 first b =
    lent 32 160 b part (omega arith) (ap (λ (l : List ℕ). 32 + length l) e ∙ ap (λ (n : ℕ). 32 + n) long) ∙ ap (λ (l : List ℕ). splice 32 l b) e in
    let mid : List ℕ = put_mid 32 128 b part in
    let lent_second : put_mid 160 128 mid part' ≡ splice 160 second mid =
    lent 160 288 mid part' (omega arith) (ap (λ (l : List ℕ). 160 + length l) f ∙ ap (λ (n : ℕ). 160 + n) long') ∙ ap (λ (l : List ℕ). splice 160 l mid) f in
    let behind : length (numbers ++ first) ≡ 160 = length_of numbers first refl long in
    let place : 160 ≡ 0 + length (numbers ++ first) = omega (arith, behind) in
    let zero : Placed 0 (le 4 c.contexts) old a = record { inside = omega arith; is = p } in
    let one : Placed 0 numbers old b = then (zeros 28) zero q in
    let two : Placed 0 (numbers ++ first) old mid = then first one lent_first in
    let three = then second two (lent_second ∙ ap (λ (n : ℕ). splice n second mid) place) in
    three.is ∙ copy_whole (numbers ++ first ++ second) old (omega (arith, length_of (numbers ++ first) second behind long')) ∙ append_assoc numbers first second

-- one module's, over bytes that have all the rest
pub named_built : (named : ℕ) (c : Cabinet) → InRange c → (old : List ℕ) {a part : List ℕ} {at : ℕ} {own : Device} → Around named c old
    → a ≡ splice 0 (le 4 c.contexts) old → at ≡ module_place named → own ≡ device_of named c → part ≡ encode_of own → at + 128 ≤ length a
    → put_mid at (at + 128 - at) a part ≡ encode_cabinet c
named_built named c h old {a = a} {part = part} {at = at} rest p q r e inside =
    let own_bytes : List ℕ = encode_of (device_of named c) in
    lent_as at 128 a part inside own_bytes (own_long c h named) (e ∙ ap encode_of r)
    ∙ (λ i. splice (q i) own_bytes (p i))
    ∙ placed named c old rest (own_long c h named)
