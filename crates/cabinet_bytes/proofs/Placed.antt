-- One module's bytes and the contexts given out, written over a cabinet's bytes: what they make is the cabinet with that module.
-- Assumes nothing.
use mathlib.Core.{Path.{◌≡◌, sym, ◌∙◌, ap}, Bool.{Bool, true, false}, List.{List, [], ◌++◌, append-nil, append_assoc}}
use Prim.Native.Nat.{ℕ, ◌≤◌, ◌+◌}
use native.Mathlib.Omega.{arith}
use lib.{ListN.{length, take, drop, length-drop, drop_of_length-le}, Seq.{take-add, take_all, drop-drop}}
use Rattle.std.specs.Prelude.{if◌then◌else◌}
use Rattle.rules.{specs.Tests.{◌=?◌}, specs.Bytes.{le, zeros, splice}, specs.Record.{possible_cabinet, device_of, other_of}, specs.declared.{Cabinet.Cabinet}}
use Rattle.bytes_numbers.proofs.Bytes.{Bytes}
use Rattle.device_bytes.specs.Encoding.{encode_of}
use Rattle.cabinet_bytes.specs.Encoding.{module_place, module_bytes, encode_cabinet, cabinet_of, decode_cabinet, Around}
use Rattle.cabinet_bytes.proofs.{Fine.fine, Again.{module_again, between}, Refused.{Possible, from_possible}}

-- a module's bytes are inside
pub inside : (named : ℕ) → module_place named + 128 ≤ 288
inside named = go (named =? 0)
  where
    go : (b : Bool) → (if b then 32 else 160) + 128 ≤ 288
    go true = omega arith
    go false = omega arith

module _ (n : ℕ) (s first second : List ℕ) (long : length s ≡ 288) (middle : take 28 (drop 4 s) ≡ zeros 28) where
  -- the contexts, over the first four bytes
  abbrev numbered : List ℕ
  numbered = splice 0 (le 4 n) s

  first_placed : length first ≡ 128 → take 128 (drop 160 s) ≡ second → splice 32 first numbered ≡ le 4 n ++ zeros 28 ++ (first ++ second)
  first_placed h e =
      let rest : drop (32 + length first) numbered ≡ second =
      ap (λ (k : ℕ). drop (32 + k) numbered) h ∙ drop-drop 156 4 s ∙ sym (take_all 128 (drop 160 s) (rw length-drop (omega (arith, long)))) ∙ e in
      λ i. le 4 n ++ middle i ++ (first ++ rest i)

  second_placed : length second ≡ 128 → take 128 (drop 32 s) ≡ first → splice 160 second numbered ≡ le 4 n ++ zeros 28 ++ (first ++ second)
  second_placed h e =
      let none : drop (160 + length second) numbered ≡ [] =
      ap (λ (k : ℕ). drop (160 + k) numbered) h ∙ drop-drop 284 4 s ∙ drop_of_length-le s {i = 288} (omega (arith, long)) in
      let front : take 156 (drop 4 s) ≡ zeros 28 ++ first =
      take-add 28 128 (drop 4 s) ∙ (λ i. middle i ++ (ap (take 128) (drop-drop 28 4 s) ∙ e) i) in
      (λ i. le 4 n ++ front i ++ (second ++ none i))
      ∙ ap (λ (l : List ℕ). le 4 n ++ (zeros 28 ++ first) ++ l) (append-nil second)
      ∙ append_assoc (le 4 n ++ zeros 28) first second

-- the module that is named
pub placed : (named : ℕ) (c : Cabinet) (s : List ℕ) → Around named c s → length (encode_of (device_of named c)) ≡ 128
    → splice (module_place named) (encode_of (device_of named c)) (splice 0 (le 4 c.contexts) s) ≡ encode_cabinet c
unfolding encode_cabinet
placed named c s a l = go (named =? 0) l a.other
  where
    go : (b : Bool) → length (encode_of (if b then c.first else c.second)) ≡ 128
        → module_bytes (if b then 160 else 32) s ≡ encode_of (if b then c.second else c.first)
        → splice (if b then 32 else 160) (encode_of (if b then c.first else c.second)) (splice 0 (le 4 c.contexts) s)
        ≡ le 4 c.contexts ++ zeros 28 ++ (encode_of c.first ++ encode_of c.second)
    go true h e = first_placed c.contexts s (encode_of c.first) (encode_of c.second) a.long a.between h e
    go false h e = second_placed c.contexts s (encode_of c.first) (encode_of c.second) a.long a.between h e

-- a possible cabinet's bytes are those of any cabinet in which the other module is the same
pub around : (named : ℕ) (c : Cabinet) (s : List ℕ) → Bytes s → possible_cabinet (decode_cabinet s) ≡ true
    → other_of named c ≡ other_of named (decode_cabinet s) → Around named c s
unfolding decode_cabinet cabinet_of
around named c s bytes possible same =
    let p = from_possible s possible in
    record { long = (fine s p.is_cabinet).long; between = between s bytes p.is_cabinet; other = go (named =? 0) p ∙ ap encode_of (sym same) }
  where
    go : (b : Bool) → Possible s → module_bytes (if b then 160 else 32) s ≡ encode_of (if b then (decode_cabinet s).second else (decode_cabinet s).first)
    go true p = rw p.is_cabinet (sym (module_again s bytes 160 p.second))
    go false p = rw p.is_cabinet (sym (module_again s bytes 32 p.first))
