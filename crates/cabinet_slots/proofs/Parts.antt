-- Laws of what is written at a place: the bytes outside of it, the part that it is, and parts that hold the same bytes.
-- Assumes nothing.
use mathlib.Core.{Path.{◌≡◌, refl, sym, ◌∙◌, ap}, Logic.{◌⊎◌, inl, inr}, List.{List, ◌∷◌, ◌++◌}}
use Prim.Native.Nat.{ℕ, ◌≤◌, ◌<◌, ◌+◌, ◌-◌}
use native.Mathlib.Omega.{arith}
use lib.ListN.{length, get_or, take, drop, length-take, length-drop, get_or-append}
use lib.Seq.{get_or-take, get_or-drop, get_or-append-add, drop-drop, drop_at, take_at, length-take-le, ext_get_or}
use Rattle.rules.specs.Bytes.{splice}

-- what was written at a place leaves every byte outside of it
pub outside : (at : ℕ) (new old : List ℕ) (i : ℕ) → at + length new ≤ length old → (i < at) ⊎ (at + length new ≤ i) → get_or (splice at new old) i 0 ≡ get_or old i 0
outside at new old i h (inl before) =
    let front : length (take at old) ≡ at = length-take-le at old (omega arith) in
    get_or-append (take at old) (new ++ drop (at + length new) old) 0 i (omega arith) ∙ get_or-take at old i 0 before
outside at new old i h (inr behind) =
    let front : length (take at old) ≡ at = length-take-le at old (omega arith) in
    let j : ℕ = i - (at + length new) in
    let far : i ≡ length (take at old) + (length new + j) = omega arith in
    let back : at + length new + j ≡ i = omega arith in
    ap (λ (n : ℕ). get_or (splice at new old) n 0) far
    ∙ get_or-append-add (take at old) (new ++ drop (at + length new) old) (length new + j) 0
    ∙ get_or-append-add new (drop (at + length new) old) j 0
    ∙ get_or-drop (at + length new) old j 0
    ∙ ap (λ (n : ℕ). get_or old n 0) back

-- parts whose bytes are the same
pub same_part : (a b : List ℕ) (at n : ℕ) → length a ≡ length b → ((i : ℕ) → i < n → get_or a (at + i) 0 ≡ get_or b (at + i) 0) → take n (drop at a) ≡ take n (drop at b)
same_part a b at n l each = ext_get_or 0 (take n (drop at a)) (take n (drop at b)) long byte
  where
    long : length (take n (drop at a)) ≡ length (take n (drop at b))
    long = simp (length-take, length-drop, l)

    byte : (i : ℕ) → i < length (take n (drop at a)) → get_or (take n (drop at a)) i 0 ≡ get_or (take n (drop at b)) i 0
    byte i h =
        let near : i < n = omega (arith, length-take n (drop at a)) in
        get_or-take n (drop at a) i 0 near ∙ get_or-drop at a i 0 ∙ each i near ∙ sym (get_or-take n (drop at b) i 0 near ∙ get_or-drop at b i 0)

-- what was written at a place is there
pub there : (at : ℕ) (new old : List ℕ) → at ≤ length old → take (length new) (drop at (splice at new old)) ≡ new
there at new old h =
    ap (take (length new)) (drop_at (take at old) (new ++ drop (at + length new) old) at (length-take-le at old h))
    ∙ take_at new (drop (at + length new) old) (length new) refl

-- behind the first byte nothing depends on it
pub behind_first : (x m : ℕ) (l : List ℕ) → drop (1 + m) (x ∷ drop 1 l) ≡ drop (1 + m) l
behind_first x m l = sym (drop-drop m 1 (x ∷ drop 1 l)) ∙ drop-drop m 1 l
