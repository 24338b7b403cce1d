-- The lines of two parts of a log, the first of which is whole records, are the lines of the two as one.
-- Assumes nothing.
use mathlib.Core.{Path.{◌≡◌, refl, sym, ◌∙◌, ap}, List.{List, ◌++◌, append-nil, append_assoc}}
use Prim.Native.Nat.{ℕ, zero, suc, ◌≤◌, ◌+◌, ◌*◌}
use native.Mathlib.{Nat.{add-zero, add-suc, add_assoc}, Omega.arith}
use lib.ListN.{length}
use Rattle.rules.{specs.Record.Whole, specs.Log.record_at, specs.Replay.{record_line, record_lines, whole_after}}
use Rattle.replay_step.proofs.Joined.{far, near, whole_near, whole_joined}

module _ (a b : List ℕ) (k : ℕ) (whole : length a ≡ k * 544) where
  lines_near : (number : ℕ) (w : Whole) (j : ℕ) → j ≤ k → record_lines number w (a ++ b) j ≡ record_lines number w a j
  unfolding record_lines
  lines_near number w zero h = refl
  lines_near number w (suc j) h =
      ap (λ (lines : List ℕ). lines ++ record_line (number + j) (whole_after w (a ++ b) j) (record_at (a ++ b) j)) (lines_near number w j (omega arith))
      ∙ ap (λ (t : Whole). record_lines number w a j ++ record_line (number + j) t (record_at (a ++ b) j)) (whole_near a b k whole w j (omega arith))
      ∙ ap (λ (bytes : List ℕ). record_lines number w a j ++ record_line (number + j) (whole_after w a j) bytes) (near a b k whole j (omega arith))

  pub lines_joined : (number : ℕ) (w : Whole) (n : ℕ)
      → record_lines number w (a ++ b) (k + n) ≡ record_lines number w a k ++ record_lines (number + k) (whole_after w a k) b n
  unfolding record_lines
  lines_joined number w zero =
      ap (record_lines number w (a ++ b)) (add-zero k) ∙ lines_near number w k (omega arith) ∙ sym (append-nil (record_lines number w a k))
  lines_joined number w (suc n) =
      let first : List ℕ = record_lines number w a k in
      let then : List ℕ = record_lines (number + k) (whole_after w a k) b n in
      ap (record_lines number w (a ++ b)) (add-suc k n)
      ∙ ap (λ (lines : List ℕ). lines ++ record_line (number + (k + n)) (whole_after w (a ++ b) (k + n)) (record_at (a ++ b) (k + n))) (lines_joined number w n)
      ∙ ap (λ (i : ℕ). (first ++ then) ++ record_line i (whole_after w (a ++ b) (k + n)) (record_at (a ++ b) (k + n))) (sym (add_assoc number k n))
      ∙ ap (λ (t : Whole). (first ++ then) ++ record_line (number + k + n) t (record_at (a ++ b) (k + n))) (whole_joined a b k whole w n)
      ∙ ap (λ (bytes : List ℕ). (first ++ then) ++ record_line (number + k + n) (whole_after (whole_after w a k) b n) bytes) (far a b k whole n)
      ∙ append_assoc first then (record_line (number + k + n) (whole_after (whole_after w a k) b n) (record_at b n))
