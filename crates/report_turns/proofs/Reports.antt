-- What is kept after the turns of a log is what feeding the log comes to: a part's tally goes on where that of the part before it stopped, and so does the cabinet.
-- Assumes nothing.
use mathlib.Core.{Path.{◌≡◌, refl, sym, ◌∙◌, ap}, Bool.{Bool, true, false, not}, List.{List, [], ◌∷◌, ◌++◌}}
use Prim.Native.Nat.{ℕ, zero, suc, ◌+◌, ◌*◌, ◌%◌, ◌≤◌}
use native.Mathlib.{Nat.{add-zero, add-suc}, Omega.arith}
use lib.ListN.{length, length-append}
use Rattle.rules.{specs.Tests.◌=?◌, specs.Record.Whole, specs.Log.{records_in, record_at, short_tail}, specs.Replay.{whole_after}}
use Rattle.rules.specs.Report.{Report, record_counted, with_log, fits, Fed, fed_if, feed, fed_next}
use Rattle.replay_step.{specs.Parts.{log_of, WholeRecords}, proofs.Joined.{far, near, whole_near, whole_joined}}
use Rattle.report_tally.specs.Tally.{Tally, tallied, tallied_tail}
use Rattle.report_log.{specs.Parts.{tally_after, fed_by}, proofs.Exact.fed_by_tally}
use Rattle.program_logs.specs.declared.Turn.TheVariants.{Part}
use Rattle.report_turns.specs.Turned.{State, begins, turned, parts_turned, log_read, log_turned, log_refused, ReportOfTurns}

-- two parts, the first of which is whole records
module _ (a b : List ℕ) (k : ℕ) (whole : length a ≡ k * 544) (t : Tally) (w : Whole) where
  tally_near : (j : ℕ) → j ≤ k → tally_after t w (a ++ b) j ≡ tally_after t w a j
  unfolding tally_after
  tally_near zero h = refl
  tally_near (suc j) h =
      ap (λ (x : Whole). tallied (record_counted x (record_at (a ++ b) j)) (tally_after t w (a ++ b) j)) (whole_near a b k whole w j (omega arith))
      ∙ ap (λ (bytes : List ℕ). tallied (record_counted (whole_after w a j) bytes) (tally_after t w (a ++ b) j)) (near a b k whole j (omega arith))
      ∙ ap (tallied (record_counted (whole_after w a j) (record_at a j))) (tally_near j (omega arith))

  tally_joined : (n : ℕ) → tally_after t w (a ++ b) (k + n) ≡ tally_after (tally_after t w a k) (whole_after w a k) b n
  unfolding tally_after
  tally_joined zero = ap (tally_after t w (a ++ b)) (add-zero k) ∙ tally_near k (omega arith)
  tally_joined (suc n) =
      ap (tally_after t w (a ++ b)) (add-suc k n)
      ∙ ap (λ (x : Whole). tallied (record_counted x (record_at (a ++ b) (k + n))) (tally_after t w (a ++ b) (k + n))) (whole_joined a b k whole w n)
      ∙ ap (λ (bytes : List ℕ). tallied (record_counted (whole_after (whole_after w a k) b n) bytes) (tally_after t w (a ++ b) (k + n))) (far a b k whole n)
      ∙ ap (tallied (record_counted (whole_after (whole_after w a k) b n) (record_at b n))) (tally_joined n)

-- what the tally of a log comes to, from a tally and a cabinet on
abbrev tailed : Tally → Whole → (log : List ℕ) → Tally
tailed t w log = tallied_tail (short_tail log) (tally_after t w log (records_in log))

tailed_joined : (t : Tally) (w : Whole) (part log : List ℕ) → length part ≡ records_in part * 544
    → tailed t w (part ++ log) ≡ tailed (tally_after t w part (records_in part)) (whole_after w part (records_in part)) log
tailed_joined t w part log whole =
    let k : ℕ = records_in part in
    let n : ℕ = records_in log in
    let both : length (part ++ log) ≡ length part + length log = length-append part log in
    let count : records_in (part ++ log) ≡ k + n = omega arith in
    let left : (length (part ++ log)) % 544 ≡ (length log) % 544 = omega arith in
    let short : short_tail (part ++ log) ≡ short_tail log = ap (λ (r : ℕ). not (r =? 0)) left in
    ap (λ (j : ℕ). tallied_tail (short_tail (part ++ log)) (tally_after t w (part ++ log) j)) count
    ∙ ap (λ (b : Bool). tallied_tail b (tally_after t w (part ++ log) (k + n))) short
    ∙ ap (tallied_tail (short_tail log)) (tally_joined part log k whole t w n)

parts_tailed : (s : State) (parts : List (List ℕ)) (last : List ℕ) → WholeRecords parts
    → tailed (parts_turned s parts).tally (parts_turned s parts).whole_now last ≡ tailed s.tally s.whole_now (log_of parts last)
parts_tailed s [] last whole = refl
parts_tailed s (part ∷ parts) last whole =
    parts_tailed (turned Part s part) parts last whole.1 ∙ sym (tailed_joined s.tally s.whole_now part (log_of parts last) whole.0)

parts_kept : (s : State) (parts : List (List ℕ)) → (parts_turned s parts).kept ≡ s.kept
parts_kept s [] = refl
parts_kept s (part ∷ parts) = parts_kept (turned Part s part) parts

-- the end of a log is what feeding the whole of it comes to, taken or not
ended : (s : State) (parts : List (List ℕ)) (last : List ℕ) → WholeRecords parts → fits s.kept ≡ true
    → fed_by (tallied_tail (short_tail last) (log_read s parts last).tally) (log_read s parts last).kept ≡ feed s.kept (log_of parts last)
ended s parts last whole f =
    let from : State = begins s.kept in
    ap (fed_by (tailed (parts_turned from parts).tally (parts_turned from parts).whole_now last)) (parts_kept from parts)
    ∙ ap (λ (t : Tally). fed_by t s.kept) (parts_tailed from parts last whole)
    ∙ fed_by_tally s.kept (log_of parts last) f

fed : (s : State) (parts : List (List ℕ)) (last : List ℕ) → WholeRecords parts → fits s.kept ≡ true → (log_turned s parts last).kept ≡ fed_next s.kept (log_of parts last)
fed s parts last whole f = ap (λ (x : Fed). x.report) (ended s parts last whole f)

refused : (s : State) (parts : List (List ℕ)) (last : List ℕ) → WholeRecords parts → fits s.kept ≡ true → log_refused s parts last ≡ not (feed s.kept (log_of parts last)).taken
refused s parts last whole f = ap (λ (x : Fed). not x.taken) (ended s parts last whole f)

fits_again : (r : Report) (log : List ℕ) → fits r ≡ true → fits (fed_next r log) ≡ true
unfolding feed
fits_again r log f = go (fits (with_log r log)) refl
  where
    go : (b : Bool) → fits (with_log r log) ≡ b → fits (fed_if b (with_log r log) r).report ≡ true
    go true e = e
    go false e = f

pub report_of_turns : ReportOfTurns
report_of_turns = record { fed = fed; refused = refused; fits_again = fits_again; unreadable = λ s parts. parts_kept (begins s.kept) parts }
