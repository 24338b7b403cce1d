-- The loop over a part's records: before the first, and one turn.
-- Assumes nothing.
use mathlib.Core.{Path.{◌≡◌, refl, sym, ◌∙◌, ap, subst}, List.{List, ◌++◌}}
use Prim.Native.Nat.{ℕ, suc, ◌+◌, ◌*◌, ◌≤◌, ◌<◌}
use native.Mathlib.Omega.{arith}
use lib.{ListN.{length, take, drop, length-append, length-drop}, Seq.{take_at, drop_at, drop-drop}}
use Rattle.rules.{specs.Record.{Whole, whole_of}, specs.Log.{records_in, record_at}, specs.Replay.whole_after}
use Rattle.report_tally.specs.Tally.{Tally, tally_of}
use Rattle.report_log.specs.{declared.Going.Going, Parts.{tally_after, GoesOn, RecordTallied}}

module _ (t : Tally) (w : Whole) (part : List ℕ) where
  -- the first j records were counted, and the rest is still to come
  pub record FirstTallied (j : ℕ) (rest area : List ℕ) (going : Going) : Type 0 where
    pub inside : j * 544 ≤ length part
    pub rest_is : rest ≡ drop (j * 544) part
    pub goes_on : GoesOn (tally_after t w part j) (whole_after w part j) area going

  pub begun_at : {rest area : List ℕ} {going : Going} → rest ≡ part → tally_of going.counting ≡ t → whole_of going.cabinet area ≡ w → FirstTallied 0 rest area going
  unfolding tally_after whole_after
  begun_at all same whole_is = record { inside = omega arith; rest_is = all; goes_on = record { tally_is = same; whole_is = whole_is } }

  next : (j : ℕ) {area : List ℕ} {going : Going} → RecordTallied (tally_after t w part j) (whole_after w part j) (record_at part j) area going
      → GoesOn (tally_after t w part (suc j)) (whole_after w part (suc j)) area going
  unfolding tally_after whole_after
  next j p = p

  pub one_more : (j n : ℕ) (bytes : List ℕ) {rest rest' area area' : List ℕ} {going going' : Going} → n ≡ j + 1 → FirstTallied j rest area going → rest ≡ bytes ++ rest' → length bytes ≡ 544
      → RecordTallied (tally_of going.counting) (whole_of going.cabinet area) bytes area' going' → FirstTallied n rest' area' going'
  one_more j n bytes {rest} {rest'} {area} {area'} {going} {going'} more before cut size turn =
      let both : bytes ++ rest' ≡ drop (j * 544) part = sym cut ∙ before.rest_is in
      let record_is : bytes ≡ record_at part j = sym (take_at bytes rest' 544 size) ∙ ap (take 544) both in
      let on : j * 544 + 544 ≡ n * 544 = omega arith in
      let rest'_is : rest' ≡ drop (n * 544) part = sym (drop_at bytes rest' 544 size) ∙ ap (drop 544) both ∙ drop-drop 544 (j * 544) part ∙ ap (λ (m : ℕ). drop m part) on in
      let at_record = subst (λ (b : List ℕ). RecordTallied (tally_of going.counting) (whole_of going.cabinet area) b area' going') record_is turn in
      let at_tally = subst (λ (x : Tally). RecordTallied x (whole_of going.cabinet area) (record_at part j) area' going') before.goes_on.tally_is at_record in
      let at_whole = subst (λ (x : Whole). RecordTallied (tally_after t w part j) x (record_at part j) area' going') before.goes_on.whole_is at_tally in
      let one : suc j ≡ n = omega arith in
      record {
        inside = omega (arith, size, ap length both, length-append bytes rest', length-drop (j * 544) part, before.inside);
        rest_is = rest'_is;
        goes_on = subst (λ (k : ℕ). GoesOn (tally_after t w part k) (whole_after w part k) area' going') one (next j at_whole);
      }

  -- where less than a record is left all were counted
  pub all_of : (j : ℕ) {rest area : List ℕ} {going : Going} → FirstTallied j rest area going → length rest < 544
      → GoesOn (tally_after t w part (records_in part)) (whole_after w part (records_in part)) area going
  all_of j {rest} {area} {going} before short =
      let all : j ≡ records_in part = omega (arith, ap length before.rest_is, length-drop (j * 544) part, before.inside, short) in
      subst (λ (k : ℕ). GoesOn (tally_after t w part k) (whole_after w part k) area going) all before.goes_on
