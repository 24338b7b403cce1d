-- What the program writes turn by turn is the text of the log: a part's lines go on where those of the part before it stopped, and so does the cabinet.
-- Assumes nothing.
use Prim.Native.Nat.{ℕ, ◌+◌, ◌*◌, ◌%◌}
use mathlib.Core.{Path.{◌≡◌, refl, sym, ◌∙◌, ap}, Bool.{Bool, not}, List.{List, [], ◌∷◌, ◌++◌, append_assoc}}
use native.Mathlib.Omega.{arith}
use lib.ListN.{length, length-append}
use Rattle.rules.{specs.Tests.◌=?◌, specs.Record.Whole, specs.Log.{records_in, short_tail}, specs.Replay.{replay_start, whole_after, record_lines, heading, tail_line, last_lines, replay_text}}
use Rattle.replay_step.{specs.Parts.{log_of, WholeRecords}, proofs.Joined.whole_joined}
use Rattle.replay_log.proofs.Joined.{lines_joined}
use Rattle.replays.specs.Turned.{parts_text, TextOfTurns}

-- the lines of a log from a number and a cabinet on, its tail's and the last ones
abbrev rest : (number : ℕ) → Whole → (log : List ℕ) → List ℕ
rest number w log = record_lines number w log (records_in log) ++ (tail_line (number + records_in log) (short_tail log) ++ last_lines (whole_after w log (records_in log)).cabinet)

-- a part in front
rest_joined : (number : ℕ) (w : Whole) (part log : List ℕ) → length part ≡ records_in part * 544
    → rest number w (part ++ log) ≡ record_lines number w part (records_in part) ++ rest (number + records_in part) (whole_after w part (records_in part)) log
rest_joined number w part log whole =
    let k : ℕ = records_in part in
    let n : ℕ = records_in log in
    let both : length (part ++ log) ≡ length part + length log = length-append part log in
    let count : records_in (part ++ log) ≡ k + n = omega arith in
    let left : (length (part ++ log)) % 544 ≡ (length log) % 544 = omega arith in
    let short : short_tail (part ++ log) ≡ short_tail log = ap (λ (r : ℕ). not (r =? 0)) left in
    let sum : number + (k + n) ≡ number + k + n = omega arith in
    ap (λ (j : ℕ). record_lines number w (part ++ log) j ++ (tail_line (number + j) (short_tail (part ++ log)) ++ last_lines (whole_after w (part ++ log) j).cabinet)) count
    ∙ ap (λ (b : Bool). record_lines number w (part ++ log) (k + n) ++ (tail_line (number + (k + n)) b ++ last_lines (whole_after w (part ++ log) (k + n)).cabinet)) short
    ∙ ap (λ (i : ℕ). record_lines number w (part ++ log) (k + n) ++ (tail_line i (short_tail log) ++ last_lines (whole_after w (part ++ log) (k + n)).cabinet)) sum
    ∙ ap (λ (t : Whole). record_lines number w (part ++ log) (k + n) ++ (tail_line (number + k + n) (short_tail log) ++ last_lines t.cabinet)) (whole_joined part log k whole w n)
    ∙ ap (λ (l : List ℕ). l ++ (tail_line (number + k + n) (short_tail log) ++ last_lines (whole_after (whole_after w part k) log n).cabinet)) (lines_joined part log k whole number w n)
    ∙ append_assoc (record_lines number w part k) (record_lines (number + k) (whole_after w part k) log n) (tail_line (number + k + n) (short_tail log) ++ last_lines (whole_after (whole_after w part k) log n).cabinet)

parts_rest : (number : ℕ) (w : Whole) (parts : List (List ℕ)) (last : List ℕ) → WholeRecords parts → parts_text number w parts last ≡ rest number w (log_of parts last)
parts_rest number w [] last whole = refl
parts_rest number w (part ∷ parts) last whole =
    ap (λ (l : List ℕ). record_lines number w part (records_in part) ++ l) (parts_rest (number + records_in part) (whole_after w part (records_in part)) parts last whole.1)
    ∙ sym (rest_joined number w part (log_of parts last) whole.0)

pub text_of_turns : TextOfTurns
unfolding replay_text
text_of_turns parts last whole =
    let log : List ℕ = log_of parts last in
    let lines : List ℕ = record_lines 0 replay_start log (records_in log) in
    let e : List ℕ = last_lines (whole_after replay_start log (records_in log)).cabinet in
    let zero_more : 0 + records_in log ≡ records_in log = omega arith in
    ap (λ (l : List ℕ). heading ++ l) (parts_rest 0 replay_start parts last whole)
    ∙ ap (λ (i : ℕ). heading ++ (lines ++ (tail_line i (short_tail log) ++ e))) zero_more
    ∙ sym (append_assoc heading lines (tail_line (records_in log) (short_tail log) ++ e))
    ∙ sym (append_assoc (heading ++ lines) (tail_line (records_in log) (short_tail log)) e)
