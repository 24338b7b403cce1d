-- Bytes that two numbers share are tested twice, and told once.
-- Assumes nothing.
use mathlib.Core.{Path.{◌≡◌, refl, sym, ◌∙◌, ap}, Bool.{Bool, true, false, ◌&&◌}, List.List}
use Prim.Native.Nat.{ℕ}
use lib.{Dec.eqb, ListN.{take, drop}}
use Rattle.rules.specs.Bytes.{number_at, zeros?}
use Rattle.bytes_numbers.proofs.Zeros.{zero_first, zero_more}

once : (a b c : Bool) → (a && b && (b && c)) ≡ (a && b && c)
once true true c = refl
once true false c = refl
once false true c = refl
once false false c = refl

-- the number at 56 behind bytes 46 to 61, of which it has 56 to 61
pub overlapped : (s : List ℕ) {t : Bool} {r : ℕ} → t ≡ zeros? (take 16 (drop 46 s)) → r ≡ number_at 8 56 s → (t && eqb r 0) ≡ zeros? (take 18 (drop 46 s))
overlapped s {t} {r} e f =
    (λ i. (e ∙ sym front) i && (zero_first 56 8 s f ∙ sym back) i)
    ∙ once (zeros? (take 10 (drop 46 s))) (eqb (number_at 6 56 s) 0) (eqb (number_at 2 62 s) 0)
    ∙ ap (λ (b : Bool). b && eqb (number_at 2 62 s) 0) front
    ∙ zero_more 46 16 2 s refl refl
  where
    front : (zeros? (take 10 (drop 46 s)) && eqb (number_at 6 56 s) 0) ≡ zeros? (take 16 (drop 46 s))
    front = zero_more 46 10 6 s refl refl

    back : (eqb (number_at 6 56 s) 0 && eqb (number_at 2 62 s) 0) ≡ zeros? (take 8 (drop 56 s))
    back = zero_more 56 6 2 s (zero_first 56 6 s refl) refl
