-- Laws of numbers in bytes: how large they are, and of a number in two parts.
-- Assumes nothing.
use mathlib.Core.{Path.{◌≡◌, ◌∙◌, ap}, List.{List, [], ◌∷◌}}
use Rattle.std.proofs.Common.{ℕ, zero, suc, ◌+◌, ◌*◌, ◌^◌, ◌<◌, ◌≤◌}
use native.Mathlib.{Nat.pow-suc, Omega.arith}
use lib.{ListN.{length, get_or, take, drop}, Seq.drop-cons}
use Rattle.rules.specs.Bytes.{of_le, number_at, AreBytes}

pub small : (k : ℕ) (bytes : List ℕ) → AreBytes bytes → of_le (take k bytes) < 256 ^ k
small zero bytes are = omega arith
small (suc k) [] are = rw pow-suc (omega (arith, small k [] are))
small (suc k) (x ∷ bytes) are = rw pow-suc (omega (arith, are 0, small k bytes (λ (place : ℕ). are (suc place))))

-- the first byte of a number, and the number in those after it
first_byte : (k i j : ℕ) (bytes : List ℕ) → i < length bytes → suc i ≡ j → number_at (suc k) i bytes ≡ get_or bytes i 0 + 256 * number_at k j bytes
first_byte k i j bytes h e =
    ap (λ (l : List ℕ). of_le (take (suc k) l)) (drop-cons bytes i 0 h) ∙ ap (λ (n : ℕ). get_or bytes i 0 + 256 * of_le (take k (drop n bytes))) e

-- its first two bytes, and those after them
pub first_half : (k at : ℕ) (bytes : List ℕ) → at + 2 ≤ length bytes → number_at (suc (suc k)) at bytes ≡ number_at 2 at bytes + 65536 * number_at k (at + 2) bytes
first_half k at bytes h =
    let one : at < length bytes = omega arith in
    let two : at + 1 < length bytes = omega arith in
    let next : suc at ≡ at + 1 = omega arith in
    let after : suc (at + 1) ≡ at + 2 = omega arith in
    omega (
      arith,
      first_byte (suc k) at (at + 1) bytes one next,
      first_byte k (at + 1) (at + 2) bytes two after,
      first_byte 1 at (at + 1) bytes one next,
      first_byte 0 (at + 1) (at + 2) bytes two after,
    )
