-- Lists of bytes.
-- Assumes nothing.
use mathlib.Core.{List.{List, [], ◌∷◌}}
use Prim.Native.Nat.{ℕ, zero, suc, ◌+◌}
use lib.{Dec.lit<, ListN.{get_or, take, drop}, Seq.{get_or-drop}}
use mir.{Syntax.w8, Val.Fits}

-- every element is below 256
abbrev pub Bytes : List ℕ → Type 0
Bytes l = (k : ℕ) → Fits w8 (get_or l k 0)

pub bytes_drop : (l : List ℕ) (i : ℕ) → Bytes l → Bytes (drop i l)
bytes_drop l i h k = rw get_or-drop (h (i + k))

pub bytes_take : (k : ℕ) (l : List ℕ) → Bytes l → Bytes (take k l)
bytes_take zero l h i = record { fits = lit< tt }
bytes_take (suc k) [] h i = record { fits = lit< tt }
bytes_take (suc k) (x ∷ xs) h zero = h 0
bytes_take (suc k) (x ∷ xs) h (suc i) = bytes_take k xs (λ (j : ℕ). h (suc j)) i
