-- A log record gives no R number: from a possible record and an area of 16,384 bytes it leads to such a cabinet again.
-- Assumes nothing.
use mathlib.Core.{Path.{◌≡◌, refl, sym, ◌∙◌}, Bool.{Bool, true, false, not, ◌&&◌, true≢false}, Logic.{inl, inr}, List.List}
use Prim.Native.Nat.{ℕ, ◌≤◌}
use lib.ListN.{length, take, drop}
use borrow.Author.Tests.{leb-true, le-ltb}
use Rattle.rules.{specs.Bytes.zeros, specs.Numbers.answer_room, specs.Record.Whole, specs.Cabinet.{Event, call, tick, power, reading, step}}
use Rattle.std.specs.Prelude.{if◌then◌else◌}
use Rattle.rules.{specs.Tests.{◌≤?◌, ◌=?◌}, specs.Bytes.zeros?, specs.Health.new_reading, proofs.page.Choice.and_true}
use Rattle.rules.specs.Log.{record_size, kind_in, named_in, host_in, revision_in, function_in, length_in, request_in, padded, good_call, bare, names_module, good_power, spare_in, media_in, controller_in, good_reading, entry_of}
use Rattle.rules.{specs.Replay.{played, record_played}, specs.Demand1.{buffer_too_short, module_over1, spare_over100, MayGive}, specs.declared.Refusal.TheVariants.{R, Status}}
use Rattle.rules.{specs.declared.Entry.Entry, specs.declared.Entry.TheVariants.{Call, Tick, Power, Health, Bad}}
use Rattle.rules.{proofs.page.Past.{NoR, EventPassed}, proofs.page.Possible.{possible_next, area_next, no_other_R}}
use Rattle.replay_step.specs.Stepped.{entry_reply, record_verdict}
use Rattle.rules.specs.Refusals.{Verdict}
use Rattle.std.specs.Prelude.{Ok, Err}

event_sound : (w : Whole) (event : Event) → buffer_too_short event ≡ false → module_over1 event ≡ false → spare_over100 event ≡ false → EventPassed w
    → EventPassed (step w event).after × NoR (step w event).reply.verdict
event_sound w event room there low s = (
  record { whole = area_next w event s.sound s.whole; sound = possible_next w event s.sound s.whole },
  go (step w event).reply.verdict refl,
)
  where
    go : (v : Verdict) → (step w event).reply.verdict ≡ v → NoR v
    go (Ok tt) e = tt
    go (Err (R number)) e = absurd (none (no_other_R w event number s.sound s.whole e))
      where
        none : MayGive number event → ⊥
        none (inl q) = true≢false (sym q.1 ∙ room)
        none (inr (inl q)) = true≢false (sym q.1 ∙ there)
        none (inr (inr q)) = true≢false (sym q.1 ∙ low)
    go (Err (Status status ext)) e = tt

-- what a log record names is a module that there is, and a reading that it says has a spare of at most 100
abbrev EntryOk : Entry → Type 0
EntryOk (Call named host revision index size) = named ≤ 1
EntryOk Tick = Unit {0}
EntryOk (Power named) = named ≤ 1
EntryOk (Health named new) = (named ≤ 1) × (new.spare ≤ 100)
EntryOk Bad = Unit {0}

module _ (bytes : List ℕ) where
  there : names_module bytes ≡ true → named_in bytes ≤ 1
  there e = leb-true (named_in bytes) 1 (and_true (host_in bytes =? 0) (named_in bytes ≤? 1) e).1

  of_call : (kind_in bytes =? 1 && good_call bytes) ≡ true → named_in bytes ≤ 1
  of_call e =
      let hosts : Bool = (1 ≤? host_in bytes) && (host_in bytes ≤? 4) in
      let good = (and_true (kind_in bytes =? 1) (good_call bytes) e).1 in
      let before = (and_true (hosts && (named_in bytes ≤? 1) && (length_in bytes ≤? 536)) (padded bytes) good).0 in
      leb-true (named_in bytes) 1 (and_true hosts (named_in bytes ≤? 1) (and_true (hosts && (named_in bytes ≤? 1)) (length_in bytes ≤? 536) before).0).1

  of_power : (kind_in bytes =? 3 && good_power bytes) ≡ true → named_in bytes ≤ 1
  of_power e = there (and_true (names_module bytes) (zeros? (drop 2 bytes)) (and_true (kind_in bytes =? 3) (good_power bytes) e).1).0

  of_reading : (kind_in bytes =? 4 && good_reading bytes) ≡ true → (named_in bytes ≤ 1) × (spare_in bytes ≤ 100)
  of_reading e =
      let front : Bool = zeros? (take 6 (drop 2 bytes)) in
      let back : Bool = zeros? (drop 13 bytes) in
      let good = and_true (names_module bytes && front && back) (spare_in bytes ≤? 100) (and_true (kind_in bytes =? 4) (good_reading bytes) e).1 in
      (there (and_true (names_module bytes) front (and_true (names_module bytes && front) back good.0).0).0, leb-true (spare_in bytes) 100 good.1)

  entry_ok : EntryOk (entry_of bytes)
  unfolding entry_of
  entry_ok =
      go (not (length bytes =? record_size)) (kind_in bytes =? 1 && good_call bytes) refl (kind_in bytes =? 2 && bare bytes) (kind_in bytes =? 3 && good_power bytes) refl
      (kind_in bytes =? 4 && good_reading bytes) refl
    where
      go : (a b : Bool) → (kind_in bytes =? 1 && good_call bytes) ≡ b → (c d : Bool) → (kind_in bytes =? 3 && good_power bytes) ≡ d → (h : Bool) → (kind_in bytes =? 4 && good_reading bytes) ≡ h
          → EntryOk (if a then Bad else if b then Call (named_in bytes) (host_in bytes) (revision_in bytes) (function_in bytes) (length_in bytes) else if c then Tick else if d then Power (named_in bytes) else if h then Health (named_in bytes) (new_reading (spare_in bytes) (media_in bytes) (controller_in bytes)) else Bad)
      go true b e c d f h g = tt
      go false true e c d f h g = of_call e
      go false false e true d f h g = tt
      go false false e false true f h g = of_power f
      go false false e false false f true g = of_reading g
      go false false e false false f false g = tt

-- one log record
pub no_R_law : (w : Whole) (bytes : List ℕ) → EventPassed w → EventPassed (record_played w bytes) × NoR (record_verdict w bytes)
no_R_law w bytes s = go (entry_of bytes) (entry_ok bytes)
  where
    go : (entry : Entry) → EntryOk entry → EventPassed (played w entry (request_in bytes)) × NoR (entry_reply w entry (request_in bytes)).verdict
    go (Call named host revision index size) ok =
        event_sound w (call host named revision index (request_in bytes) (zeros answer_room)) refl (le-ltb 1 named ok) refl s
    go Tick ok = event_sound w tick refl refl refl s
    go (Power named) ok = event_sound w (power named) refl (le-ltb 1 named ok) refl s
    go (Health named new) ok = event_sound w (reading named new) refl (le-ltb 1 named ok.0) (le-ltb 100 new.spare ok.1) s
    go Bad ok = (s, tt)
