-- What it says of an event that none of the first checks refused it: the buffers have their sizes and the record is possible; and what a possible record bounds.
-- Assumes nothing.
use mathlib.Core.{Path.{◌≡◌, subst}, Bool.{true, false, not, ◌&&◌}, List.{List, ◌∷◌, ◌++◌, []}}
use Prim.Native.Nat.{ℕ, ◌≤◌}
use lib.ListN.{length}
use borrow.Author.Tests.{eqb-true, leb-true, ltb-false, not-false}
use Rattle.rules.specs.{Tests.{◌≤?◌, ◌<?◌, ◌=?◌, ◌implies◌, ◌unless◌}, Bytes.zeros?, Numbers.{area_size, answer_room, verification, attempt_limit}}
use Rattle.rules.specs.Record.{◌is◌, possible, possible_numbers, possible_fault, possible_transfer, possible_security, possible_thresholds, possible_reading, possible_parts, possible_trips, possible_cabinet, possible_current, has_area, Whole, device_of}
use Rattle.rules.specs.{Refusals.{Check, verdict, R1Check, tick_checks, event_checks}, declared.Phase.TheVariants.{Idle, Verifying, Staged}}
use Rattle.rules.specs.{declared.Refusal.TheVariants.{R, Status}}
use Rattle.rules.specs.declared.{Device.Device, Cabinet.Cabinet}
use Rattle.rules.proofs.{page.Choice.{and_true, and_3, and_4, and_5, if_both}, page.Passed.{NotBy, past_rows, passed}}
use Rattle.rules.specs.Refusals.{Verdict}
use Rattle.std.specs.Prelude.{Ok, Err}

-- the verdict is no R number
abbrev pub NoR : Verdict → Type 0
NoR (Ok tt) = Unit {0}
NoR (Err (R number)) = ⊥
NoR (Err (Status status ext)) = Unit {0}

other_than : (number : ℕ) (v : Verdict) → NoR v → v ≡ Err (R number) → ⊥
other_than number v n e = subst NoR e n

-- the checks of a tick have passed: the area is whole, and the cabinet possible
pub record EventPassed (w : Whole) : Type 0 where
  pub whole : length w.area ≡ area_size
  pub sound : possible_cabinet w.cabinet ≡ true

pub tick_passed : (w : Whole) → verdict (tick_checks w) ≡ Ok tt → EventPassed w
tick_passed w e =
    let q = passed (tick_checks w) e in
    record { whole = eqb-true (length w.area) area_size (not-false _ q.0); sound = not-false (possible_cabinet w.cabinet) q.1.0 }

-- the checks of every other event each give an R number
pub not_by_event : (w : Whole) (named : ℕ) (v : Verdict) → NoR v → NotBy (event_checks w named) v
not_by_event w named v n = (other_than 2 v n, (other_than 5 v n, (other_than 3 v n, tt)))

-- they have passed
pub event_passed : (w : Whole) (named : ℕ) (later : List Check) (v : Verdict) → verdict (event_checks w named ++ later) ≡ v → NotBy (event_checks w named) v
    → EventPassed w × (verdict later ≡ v)
event_passed w named later v e n =
    let q = past_rows (event_checks w named) later v e n in (
      record {
        whole = eqb-true (length w.area) area_size (not-false _ q.0.0);
        sound = not-false (possible_cabinet w.cabinet) q.0.1.1.0;
      },
      q.1,
    )

-- and so has R1's
pub call_passed : (w : Whole) (named : ℕ) (answer : List ℕ) (later : List Check) (v : Verdict) → verdict (R1Check answer ∷ event_checks w named ++ later) ≡ v → NoR v
    → (answer_room ≤ length answer) × (EventPassed w × (verdict later ≡ v))
call_passed w named answer later v e n =
    let q = past_rows (R1Check answer ∷ []) (event_checks w named ++ later) v e (other_than 1 v n, tt) in
    (ltb-false (length answer) answer_room q.0.0, event_passed w named later v q.1 (not_by_event w named v n))

-- an event that no R number refused names a module that there is
pub event_there : (w : Whole) (named : ℕ) (later : List Check) (v : Verdict) → verdict (event_checks w named ++ later) ≡ v → NoR v → (1 <? named) ≡ false
event_there w named later v e n = (past_rows (event_checks w named) later v e (not_by_event w named v n)).0.1.0

pub call_there : (w : Whole) (named : ℕ) (answer : List ℕ) (later : List Check) (v : Verdict) → verdict (R1Check answer ∷ event_checks w named ++ later) ≡ v → NoR v
    → (1 <? named) ≡ false
call_there w named answer later v e n =
    event_there w named later v (past_rows (R1Check answer ∷ []) (event_checks w named ++ later) v e (other_than 1 v n, tt)).1 n

-- a possible cabinet: both modules' records are possible
pub both_possible : (c : Cabinet) → possible_cabinet c ≡ true → (possible c.contexts c.first ≡ true) × (possible c.contexts c.second ≡ true)
unfolding possible_cabinet
both_possible c e =
    let q = and_3 (possible c.contexts c.first) (possible c.contexts c.second) (not (has_area c.first.transfer && has_area c.second.transfer)) e in
    (q.0, q.1)

pub named_possible : (named : ℕ) (c : Cabinet) → possible_cabinet c ≡ true → possible c.contexts (device_of named c) ≡ true
named_possible named c e = let q = both_possible c e in if_both (λ (d : Device). possible c.contexts d ≡ true) (named =? 0) q.0 q.1

-- a possible record: attempts at most 10, received at most 16,384
pub attempts_most : (given : ℕ) (d : Device) → possible given d ≡ true → d.security.attempts ≤ attempt_limit
unfolding possible possible_parts possible_security
attempts_most given d e =
    let s = d.security in
    let parts = and_4 (possible_transfer given d.transfer) (possible_security s) (possible_thresholds d.thresholds) (possible_reading d.reading) (and_true (possible_parts given d) (possible_trips d) e).0 in
    leb-true s.attempts attempt_limit (and_3 (s.locked implies s.enabled) (zeros? s.passphrase unless s.enabled) (s.attempts ≤? attempt_limit) parts.1).2

pub received_most : (given : ℕ) (d : Device) → possible given d ≡ true → d.transfer.received ≤ area_size
unfolding possible possible_parts possible_transfer
received_most given d e =
    let t = d.transfer in
    let parts = and_4 (possible_transfer given t) (possible_security d.security) (possible_thresholds d.thresholds) (possible_reading d.reading) (and_true (possible_parts given d) (possible_trips d) e).0 in
    leb-true t.received area_size
    (and_5 (t.received ≤? area_size) (t.phase is Idle implies t.received =? 0)
    (t.phase is Verifying implies 1 ≤? t.ticks && t.ticks ≤? verification) (t.ticks =? 0 unless t.phase is Verifying)
    (t.staged =? 0 unless t.phase is Staged) (and_3 (possible_current given t) (possible_numbers t) (possible_fault t) parts.0).1).0
