-- Laws of numbers as bytes, stated over the width; and of lists of bytes.
-- Assumes nothing.
use mathlib.Core.{Path.{◌≡◌, refl, sym, ◌∙◌, ap}, List.{List, [], ◌∷◌, ◌++◌}}
use Prim.Native.Nat.{ℕ, zero, suc, ◌≤◌, ◌<◌, ◌+◌, ◌*◌, ◌^◌, ◌/◌, ◌%◌}
use native.Mathlib.{Nat.{pow-suc, div-lt_iff_lt-mul}, Omega.arith}
use lib.{ListN.{length, take, drop, length-drop}, Seq.{get_or-drop, length-take-le}}
use Rattle.rules.specs.Bytes.{le, of_le, number_at, zeros, AreBytes}

pub length_le : (k n : ℕ) → length (le k n) ≡ k
length_le zero n = refl
length_le (suc k) n = ap suc (length_le k (n / 256))

-- reading back what was written
pub of_le_le : (k n : ℕ) → n < 256 ^ k → of_le (le k n) ≡ n
of_le_le zero n h = omega arith
of_le_le (suc k) n h =
    let g : n / 256 < 256 ^ k = (div-lt_iff_lt-mul {k = 256} (omega arith)).1 (rw pow-suc at h) in
    rw (of_le_le k (n / 256) g) (omega arith)

-- writing again what was read
pub le_of_le : (bytes : List ℕ) → AreBytes bytes → le (length bytes) (of_le bytes) ≡ bytes
le_of_le [] h = refl
le_of_le (x ∷ bytes) h =
    let low : (x + 256 * of_le bytes) % 256 ≡ x = omega (arith, h 0) in
    let high : (x + 256 * of_le bytes) / 256 ≡ of_le bytes = omega (arith, h 0) in
    rw (low, high, le_of_le bytes (λ (place : ℕ). h (suc place)))

-- bytes in parts are bytes
pub drop_bytes : (k : ℕ) (bytes : List ℕ) → AreBytes bytes → AreBytes (drop k bytes)
drop_bytes k bytes h place = rw get_or-drop (h (k + place))

pub take_bytes : (k : ℕ) (bytes : List ℕ) → AreBytes bytes → AreBytes (take k bytes)
take_bytes zero bytes h place = omega arith
take_bytes (suc k) [] h place = omega arith
take_bytes (suc k) (x ∷ bytes) h zero = h 0
take_bytes (suc k) (x ∷ bytes) h (suc place) = take_bytes k bytes (λ (j : ℕ). h (suc j)) place

pub append_bytes : (a b : List ℕ) → AreBytes a → AreBytes b → AreBytes (a ++ b)
append_bytes [] b first second place = second place
append_bytes (x ∷ a) b first second zero = first 0
append_bytes (x ∷ a) b first second (suc place) = append_bytes a b (λ (j : ℕ). first (suc j)) second place

pub le_bytes : (k n : ℕ) → AreBytes (le k n)
le_bytes zero n place = omega arith
le_bytes (suc k) n zero = omega arith
le_bytes (suc k) n (suc place) = le_bytes k (n / 256) place

pub zeros_bytes : (k : ℕ) → AreBytes (zeros k)
zeros_bytes zero place = omega arith
zeros_bytes (suc k) zero = omega arith
zeros_bytes (suc k) (suc place) = zeros_bytes k place

-- a number read at a place, written again
pub read_again : (k at : ℕ) (bytes : List ℕ) {number : ℕ} → at + k ≤ length bytes → AreBytes bytes → number_at k at bytes ≡ number
    → le k number ≡ take k (drop at bytes)
read_again k at bytes h are e =
    let part : List ℕ = take k (drop at bytes) in
    let room : k ≤ length (drop at bytes) = rw length-drop (omega arith) in
    let long : length part ≡ k = length-take-le k (drop at bytes) room in
    ap (le k) (sym e) ∙ ap (λ (width : ℕ). le width (of_le part)) (sym long) ∙ le_of_le part (take_bytes k (drop at bytes) (drop_bytes at bytes are))
