-- A fresh record is made where the bytes are 288, and nothing elsewhere.
-- Assumes nothing.
use mathlib.Core.{Path.{◌≡◌, sym, ◌∙◌, ap}, Bool.Bool, List.List}
use Prim.Native.Nat.{ℕ}
use lib.{IntN.{ℤ, pos}, ListN.length}
use borrow.Author.Tests.{eq-eqb, ne_eqb}
use Rattle.std.specs.Prelude.{if◌then◌else◌}
use Rattle.rules.specs.Record.{fresh_cabinet}
use Rattle.cabinet_bytes.specs.Encoding.{cabinet_size, encode_cabinet}
use Rattle.abi_keep.specs.Kept.{refusal}
use Rattle.abi.specs.Abi.{Made}

pub made : (bytes : List ℕ) {number : ℤ} {bytes' : List ℕ} → length bytes ≡ cabinet_size → number ≡ pos 0 → bytes' ≡ encode_cabinet fresh_cabinet → Made bytes number bytes'
made bytes h p q =
    let e = sym (eq-eqb (length bytes) cabinet_size h) in
    record {
      number_is = p ∙ ap (λ (t : Bool). if t then pos 0 else refusal 3) e;
      record_is = q ∙ ap (λ (t : Bool). if t then encode_cabinet fresh_cabinet else bytes) e;
    }

pub not_made : (bytes : List ℕ) → (length bytes ≡ cabinet_size → ⊥) → Made bytes (refusal 3) bytes
not_made bytes h =
    let e = sym (ne_eqb (length bytes) cabinet_size h) in
    record {
      number_is = ap (λ (t : Bool). if t then pos 0 else refusal 3) e;
      record_is = ap (λ (t : Bool). if t then encode_cabinet fresh_cabinet else bytes) e;
    }
