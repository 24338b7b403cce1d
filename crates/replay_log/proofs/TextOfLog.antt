-- What is written part by part is the definition's text of the whole log, however the log is split into parts of whole records and a tail.
-- Assumes nothing.
use mathlib.Core.{Path.{◌≡◌, refl, sym, ◌∙◌, ap}, Bool.{Bool, not}, List.{List, [], ◌∷◌, ◌++◌}}
use Prim.Native.Nat.{ℕ, ◌+◌, ◌*◌, ◌%◌, ◌<◌}
use native.Mathlib.Omega.{arith}
use lib.ListN.{length, length-append}
use Rattle.rules.{specs.Tests.◌=?◌, specs.Record.Whole, specs.Log.{records_in, short_tail}}
use Rattle.rules.specs.Replay.{replay_start, record_lines, whole_after, heading, tail_line, last_lines, replay_text}
use Rattle.replay_log.specs.InParts.{records_over, whole_over, lines_over, text_over}
use Rattle.replay_step.{specs.Parts.{log_of, WholeRecords}, proofs.Joined.whole_joined}
use Rattle.replay_log.proofs.Joined.{lines_joined}

whole_over_law : (w : Whole) (parts : List (List ℕ)) (tail : List ℕ) → WholeRecords parts → whole_after w (log_of parts tail) (records_over parts) ≡ whole_over w parts
unfolding whole_after
whole_over_law w [] tail whole = refl
whole_over_law w (part ∷ parts) tail whole =
    whole_joined part (log_of parts tail) (records_in part) whole.0 w (records_over parts)
    ∙ whole_over_law (whole_after w part (records_in part)) parts tail whole.1

lines_over_law : (number : ℕ) (w : Whole) (parts : List (List ℕ)) (tail : List ℕ) → WholeRecords parts
    → record_lines number w (log_of parts tail) (records_over parts) ≡ lines_over number w parts
unfolding record_lines
lines_over_law number w [] tail whole = refl
lines_over_law number w (part ∷ parts) tail whole =
    lines_joined part (log_of parts tail) (records_in part) whole.0 number w (records_over parts)
    ∙ ap (λ (lines : List ℕ). record_lines number w part (records_in part) ++ lines) (lines_over_law (number + records_in part) (whole_after w part (records_in part)) parts tail whole.1)

length_over : (parts : List (List ℕ)) (tail : List ℕ) → WholeRecords parts → length (log_of parts tail) ≡ records_over parts * 544 + length tail
length_over [] tail whole = omega arith
length_over (part ∷ parts) tail whole =
    let first : length part ≡ records_in part * 544 = whole.0 in
    let later : length (log_of parts tail) ≡ records_over parts * 544 + length tail = length_over parts tail whole.1 in
    rw length-append (omega arith)

module _ (parts : List (List ℕ)) (tail : List ℕ) (whole : WholeRecords parts) (short : length tail < 544) where
  all_records : records_in (log_of parts tail) ≡ records_over parts
  all_records =
      let long : length (log_of parts tail) ≡ records_over parts * 544 + length tail = length_over parts tail whole in
      omega arith

  same_tail : short_tail (log_of parts tail) ≡ not (length tail =? 0)
  same_tail =
      let long : length (log_of parts tail) ≡ records_over parts * 544 + length tail = length_over parts tail whole in
      let left : length (log_of parts tail) % 544 ≡ length tail = omega arith in
      ap (λ (n : ℕ). not (n =? 0)) left

  pub text_of_log : text_over parts tail ≡ replay_text (log_of parts tail)
  unfolding replay_text
  text_of_log =
      let log : List ℕ = log_of parts tail in
      let n : ℕ = records_over parts in
      sym
      (ap (λ (k : ℕ). heading ++ record_lines 0 replay_start log k ++ tail_line k (short_tail log) ++ last_lines (whole_after replay_start log k).cabinet) all_records
      ∙ ap (λ (lines : List ℕ). heading ++ lines ++ tail_line n (short_tail log) ++ last_lines (whole_after replay_start log n).cabinet) (lines_over_law 0 replay_start parts tail whole)
      ∙ ap (λ (t : Bool). heading ++ lines_over 0 replay_start parts ++ tail_line n t ++ last_lines (whole_after replay_start log n).cabinet) same_tail
      ∙ ap (λ (w : Whole). heading ++ lines_over 0 replay_start parts ++ tail_line n (not (length tail =? 0)) ++ last_lines w.cabinet) (whole_over_law replay_start parts tail whole))
