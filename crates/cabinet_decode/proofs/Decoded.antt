-- The decoding function against its definition, over plain values.
-- Assumes nothing.
use mathlib.Core.{Path.{◌≡◌, refl, sym, ◌∙◌, ap}, Bool.{Bool, true, false}, List.List}
use Prim.Native.Nat.{ℕ}
use lib.ListN.{length}
use Rattle.rules.specs.declared.Cabinet.{Cabinet}
use Rattle.std.specs.Array.{IsWholeChunk}
use Rattle.cabinet_bytes.{specs.Encoding.{cabinet?, cabinet_of, impossible_cabinet, decode_cabinet}, proofs.Fine.fine}

-- what decodes: all of the bytes, where they are a cabinet's
pub was_cabinet : (s bytes : List ℕ) {tested : Bool} {d : Cabinet} → IsWholeChunk s bytes 288 → tested ≡ cabinet? bytes → tested ≡ true → d ≡ cabinet_of bytes → d ≡ decode_cabinet s
unfolding decode_cabinet
was_cabinet s bytes w e t p =
    let whole : cabinet? s ≡ true = ap cabinet? (sym w.same) ∙ sym e ∙ t in
    rw whole (p ∙ ap cabinet_of w.same)

pub was_none : (s bytes : List ℕ) {tested : Bool} {d : Cabinet} → IsWholeChunk s bytes 288 → tested ≡ cabinet? bytes → tested ≡ false → d ≡ impossible_cabinet → d ≡ decode_cabinet s
unfolding decode_cabinet
was_none s bytes w e t p =
    let whole : cabinet? s ≡ false = ap cabinet? (sym w.same) ∙ sym e ∙ t in
    rw whole p

-- bytes that are not 288
no_length : (s : List ℕ) (t : Bool) → (length s ≡ 288 → ⊥) → cabinet? s ≡ t → t ≡ false
no_length s true h q = absurd (h (fine s q).long)
no_length s false h q = refl

pub not_whole : (s : List ℕ) {d : Cabinet} → (length s ≡ 288 → ⊥) → d ≡ impossible_cabinet → d ≡ decode_cabinet s
unfolding decode_cabinet
not_whole s h p =
    let none : cabinet? s ≡ false = no_length s (cabinet? s) h refl in
    rw none p
