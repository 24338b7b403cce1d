-- What stands at a place of a log, as it is played: the three things that a reader finds.
-- Assumes nothing.
use mathlib.Core.{Path.{◌≡◌, refl, sym, ◌∙◌, ap, subst}, List.{List, [], ◌++◌}}
use Prim.Native.Nat.{ℕ, ◌+◌, ◌-◌, ◌*◌, ◌≤◌, ◌<◌}
use native.Mathlib.{Nat.add-zero, Omega.arith}
use lib.ListN.{length, take, drop, take-append-drop}
use Rattle.rules.{specs.Record.Whole, specs.Log.{entry_of, records_in, record_at}, specs.declared.Entry.Entry}
use Rattle.log_reader.{specs.declared.Found.Found, specs.declared.Found.TheVariants.Record, specs.declared.Stood.Stood, specs.Reader.stood_at}
use Rattle.log_reader.proofs.Places.{at_record, found_record}
use Rattle.replay_step.proofs.Joined.{record_part}
use Rattle.text.specs.Wrote.{line_room}
use Rattle.replay_play.{specs.declared.Played.Played, specs.Replayed.{Replayed, RecordReplayed}}
use Rattle.replay_log.specs.Places.{PlaceReplayed, found_line, found_played}

module _ (log : List ℕ) (place : ℕ) where
  module _ {stood : Stood} (read : stood ≡ stood_at log place) where
    at_place : {found : Found} → stood.found ≡ found → (stood_at log place).found ≡ found
    at_place told = ap (λ (s : Stood). s.found) (sym read) ∙ told

    -- a record that was read ends within the log, and says what was read
    pub record_within : {entry : Entry} → stood.found ≡ Record entry → place * 544 + 544 ≤ length log
    record_within told =
        let there = (found_record log place (at_place told)).0 in
        omega (arith, there)

    pub record_says : {entry : Entry} → stood.found ≡ Record entry → entry ≡ entry_of (take (place * 544 + 544 - place * 544) (drop (place * 544) log))
    record_says told = (found_record log place (at_place told)).1 ∙ ap entry_of (sym (record_part log place))

    -- what was found was played
    pub as_found : (number : ℕ) (w : Whole) (found : Found) {old new area : List ℕ} {at : ℕ} {p : Played} → stood.found ≡ found
        → Replayed line_room (found_line number w found (record_at log place)) (found_played w found (record_at log place)) old at new area p
        → PlaceReplayed number w log place old at new area p
    as_found number w found {old} {new} {area} {at} {p} told done =
        subst (λ (f : Found). Replayed line_room (found_line number w f (record_at log place)) (found_played w f (record_at log place)) old at new area p) (sym (at_place told)) done

    -- a record that was read was played
    pub as_record : (number : ℕ) (w : Whole) {entry : Entry} {old new area : List ℕ} {at : ℕ} {p : Played} → stood.found ≡ Record entry
        → RecordReplayed number w (take (place * 544 + 544 - place * 544) (drop (place * 544) log)) old at new area p
        → PlaceReplayed number w log place old at new area p
    as_record number w {entry} {old} {new} {area} {at} {p} told done =
        let says : entry ≡ entry_of (record_at log place) = (found_record log place (at_place told)).1 in
        let here : RecordReplayed number w (record_at log place) old at new area p = subst (λ (bytes : List ℕ). RecordReplayed number w bytes old at new area p) (record_part log place) done in
        as_found number w (Record entry) told
        (subst (λ (e : Entry). Replayed line_room (found_line number w (Record e) (record_at log place)) (found_played w (Record e) (record_at log place)) old at new area p) (sym says) here)

  -- where a record stands, playing what stands there is playing the record
  pub place_record : (number : ℕ) (w : Whole) {old new area : List ℕ} {at : ℕ} {p : Played} → place < records_in log
      → PlaceReplayed number w log place old at new area p → RecordReplayed number w (record_at log place) old at new area p
  place_record number w {old} {new} {area} {at} {p} h done =
      subst (λ (f : Found). Replayed line_room (found_line number w f (record_at log place)) (found_played w f (record_at log place)) old at new area p)
      (ap (λ (s : Stood). s.found) (at_record log place h)) done

-- at the end there is no line
pub nothing_written : (out : List ℕ) {w : Whole} {most at : ℕ} → Replayed most [] w out at out w.area (record { at = at; cabinet = w.cabinet })
nothing_written out {at = at} = record { within = omega arith; wrote = record { next_is = omega arith; new_is = sym (ap (λ (n : ℕ). take at out ++ drop n out) (add-zero at) ∙ take-append-drop at out) }; whole_is = refl }
