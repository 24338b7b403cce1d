-- A log that is two parts, the first of which is whole records: where each record stands, and the cabinet after them.
-- Assumes nothing.
use mathlib.Core.{Path.{◌≡◌, refl, sym, ◌∙◌, ap}, List.{List, ◌++◌}}
use Prim.Native.Nat.{ℕ, zero, suc, ◌≤◌, ◌<◌, ◌+◌, ◌-◌, ◌*◌}
use native.Mathlib.{Nat.{add-zero, add-suc, add-mul, add-sub_cancel_left}, Omega.arith}
use lib.{ListN.{length, take, drop, length-drop}, Seq.{drop_at, drop-drop, take-append-le, drop-append-le}}
use Rattle.rules.{specs.Record.Whole, specs.Log.record_at, specs.Replay.{record_played, whole_after}}

-- the part of a log that is lent for a record is the record
pub record_part : (log : List ℕ) (place : ℕ) → take (place * 544 + 544 - place * 544) (drop (place * 544) log) ≡ record_at log place
record_part log place = ap (λ (k : ℕ). take k (drop (place * 544) log)) (add-sub_cancel_left (place * 544) 544)

module _ (a b : List ℕ) (k : ℕ) (whole : length a ≡ k * 544) where
  -- a record of the second part, and one of the first
  pub far : (j : ℕ) → record_at (a ++ b) (k + j) ≡ record_at b j
  far j =
      ap (λ (n : ℕ). take 544 (drop n (a ++ b))) (add-mul k j 544)
      ∙ ap (take 544) (sym (drop-drop (j * 544) (k * 544) (a ++ b)) ∙ ap (drop (j * 544)) (drop_at a b (k * 544) whole))

  pub near : (j : ℕ) → j < k → record_at (a ++ b) j ≡ record_at a j
  near j h =
      let before : j * 544 ≤ length a = omega arith in
      let inside : 544 ≤ length (drop (j * 544) a) = rw length-drop (omega arith) in
      ap (take 544) (drop-append-le (j * 544) a b before) ∙ take-append-le 544 (drop (j * 544) a) b inside

  pub whole_near : (w : Whole) (j : ℕ) → j ≤ k → whole_after w (a ++ b) j ≡ whole_after w a j
  unfolding whole_after
  whole_near w zero h = refl
  whole_near w (suc j) h =
      ap (λ (t : Whole). record_played t (record_at (a ++ b) j)) (whole_near w j (omega arith))
      ∙ ap (record_played (whole_after w a j)) (near j (omega arith))

  pub whole_joined : (w : Whole) (n : ℕ) → whole_after w (a ++ b) (k + n) ≡ whole_after (whole_after w a k) b n
  unfolding whole_after
  whole_joined w zero = ap (whole_after w (a ++ b)) (add-zero k) ∙ whole_near w k (omega arith)
  whole_joined w (suc n) =
      ap (whole_after w (a ++ b)) (add-suc k n)
      ∙ ap (λ (t : Whole). record_played t (record_at (a ++ b) (k + n))) (whole_joined w n)
      ∙ ap (record_played (whole_after (whole_after w a k) b n)) (far n)
