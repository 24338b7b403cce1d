-- The loop over a part's records: before the first, and one turn.
-- Assumes nothing.
use mathlib.Core.{Path.{◌≡◌, refl, subst}, List.List}
use Prim.Native.Nat.{ℕ, suc, ◌+◌, ◌*◌, ◌<◌}
use native.Mathlib.Omega.{arith}
use Rattle.rules.{specs.Record.{Whole, whole_of}, specs.Log.{records_in, record_at}, specs.Replay.{record_line, record_played, record_lines, whole_after}}
use Rattle.text.{specs.Wrote.line_room, proofs.Writing.and_then}
use Rattle.replay_play.{specs.declared.Played.Played, specs.Replayed.Replayed}
use Rattle.replay_log.specs.Places.{PlaceReplayed}
use Rattle.replay_log.proofs.Found.{place_record}

module _ (number : ℕ) (w : Whole) (part : List ℕ) where
  -- the first j records were played, and their lines were written from place 0 on
  abbrev pub FirstPlayed : (j : ℕ) (old new area : List ℕ) → Played → Type 0
  FirstPlayed j old new area p = Replayed (j * line_room) (record_lines number w part j) (whole_after w part j) old 0 new area p

  pub none_yet : (out area : List ℕ) (p : Played) → p.at ≡ 0 → whole_of p.cabinet area ≡ w → FirstPlayed 0 out out area p
  unfolding record_lines whole_after
  none_yet out area p start same = record { within = omega (arith, start); wrote = record { next_is = start; new_is = refl }; whole_is = same }

  step : (j : ℕ) {old out new area area' : List ℕ} {p q : Played} → FirstPlayed j old out area p
      → Replayed line_room (record_line (number + j) (whole_after w part j) (record_at part j)) (record_played (whole_after w part j) (record_at part j)) out p.at new area' q
      → FirstPlayed (suc j) old new area' q
  unfolding record_lines whole_after
  step j p q = record { within = omega (arith, p.within, q.within); wrote = and_then (omega arith) p.wrote q.wrote; whole_is = q.whole_is }

  pub one_more : (j : ℕ) {old out new area area' : List ℕ} {p q : Played} → j < records_in part → FirstPlayed j old out area p
      → PlaceReplayed (number + j) (whole_of p.cabinet area) part j out p.at new area' q
      → FirstPlayed (j + 1) old new area' q
  one_more j {old} {out} {new} {area} {area'} {p} {q} inside before turn =
      let next : suc j ≡ j + 1 = omega arith in
      let here : Whole = whole_of p.cabinet area in
      let at_record = place_record part j (number + j) here inside turn in
      let at_whole = subst (λ (x : Whole). Replayed line_room (record_line (number + j) x (record_at part j)) (record_played x (record_at part j)) out p.at new area' q) before.whole_is at_record in
      subst (λ (k : ℕ). FirstPlayed k old new area' q) next (step j before at_whole)
