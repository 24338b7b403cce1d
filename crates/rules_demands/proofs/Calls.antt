-- Demand 1 written out follows from demand 1.
-- Assumes nothing.
use Prim.Native.Nat.{ℕ, ◌+◌, ◌-◌}
use native.Mathlib.Omega.{arith}
use mathlib.Core.{Path.{◌≡◌, refl, ◌∙◌, ap}, Logic.{◌⊎◌, inl, inr}, Bool.{Bool, true, false, false≢true}, List.{List, ◌++◌}}
use lib.ListN.{length, drop}
use borrow.Author.Tests.{ltb-true}
use Rattle.std.specs.Prelude.{if◌then◌else◌}
use Rattle.rules.{specs.Tests.{◌=?◌}, specs.Bytes.{le, zeros}, specs.Record.{Whole, whole_of}, specs.Refusals.{answer_after, one_attempt_more}}
use Rattle.rules.{specs.Table.{table, row_of}, specs.Module.device_keeping, specs.Cabinet.{Event, call, tick, power, reading, call_result}}
use Rattle.rules.specs.Demand1.{OfCall, OfReading, buffer_too_short, module_over1, spare_over100, MayGive, Demand1}
use Rattle.rules.{specs.declared.Row.Row, specs.declared.Function.Function, specs.declared.Reading.Reading, specs.declared.Device.Device}
use Rattle.rules.specs.declared.Function.TheVariants.{Mask, GetHealth, GetThreshold, GetFwInfo, Start, Send, Finish, Query, SetThreshold, GetSecurityState, SetPassphrase, Disable, Unlock, Freeze, Unserved}
use Rattle.rules.{specs.declared.Refusal.TheVariants.{R, Status}}
use Rattle.rules_demands.specs.Calls.{over_front, bytes_told, Served, CallWrittenOut, ReadingWrittenOut, LendsTooLittle, NamesNoModule, ReadsOver100, Demand1WrittenOut}
use Rattle.rules_demands.proofs.Places.{looked_at}
use Rattle.std.specs.Prelude.{Ok, Err}

-- the mask is function 0
abbrev mask? : Function → Bool
mask? Mask = true
mask? GetHealth = false
mask? GetThreshold = false
mask? GetFwInfo = false
mask? Start = false
mask? Send = false
mask? Finish = false
mask? Query = false
mask? SetThreshold = false
mask? GetSecurityState = false
mask? SetPassphrase = false
mask? Disable = false
mask? Unlock = false
mask? Freeze = false
mask? Unserved = false

mask_at_0 : (index : ℕ) → mask? (row_of index).function ≡ true → index ≡ 0
unfolding row_of
mask_at_0 index = looked_at (λ (i : ℕ) (r : Row). mask? r.function ≡ true → i ≡ 0) index table (λ e. refl, (not_it, (not_it, (not_it, (not_it, (not_it, (not_it, (not_it, (not_it, (not_it, (not_it, (not_it, (not_it, (not_it, tt)))))))))))))) (λ n. not_it)
  where
    not_it : {i : ℕ} → false ≡ true → i ≡ 0
    not_it e = absurd (false≢true e)

-- an answer goes over the front of the buffer
over_front_law : (bytes buffer : List ℕ) → answer_after bytes buffer ≡ over_front bytes buffer
over_front_law bytes buffer = let e : 0 + length bytes ≡ length bytes = omega arith in ap (λ (n : ℕ). bytes ++ drop n buffer) e

-- a record in its place is the cabinet with that module's record changed
in_place : (z : Bool) (change : Device → Device) (w : Whole)
    → whole_of (record {
      contexts = w.cabinet.contexts;
      first = if z then change (if z then w.cabinet.first else w.cabinet.second) else w.cabinet.first;
      second = if z then w.cabinet.second else change (if z then w.cabinet.first else w.cabinet.second);
    }) w.area
    ≡ (if z then whole_of (record { contexts = w.cabinet.contexts; first = change w.cabinet.first; second = w.cabinet.second }) w.area
    else whole_of (record { contexts = w.cabinet.contexts; first = w.cabinet.first; second = change w.cabinet.second }) w.area)
in_place true change w = refl
in_place false change w = refl

-- what a status leaves
left_by : (b z : Bool) (w : Whole)
    → whole_of (if b then record {
      contexts = w.cabinet.contexts;
      first = if z then one_attempt_more (if z then w.cabinet.first else w.cabinet.second) else w.cabinet.first;
      second = if z then w.cabinet.second else one_attempt_more (if z then w.cabinet.first else w.cabinet.second);
    } else w.cabinet) w.area
    ≡ (if b then (if z then whole_of (record { contexts = w.cabinet.contexts; first = one_attempt_more w.cabinet.first; second = w.cabinet.second }) w.area
    else whole_of (record { contexts = w.cabinet.contexts; first = w.cabinet.first; second = one_attempt_more w.cabinet.second }) w.area)
    else w)
left_by true z w = in_place z one_attempt_more w
left_by false z w = refl

module _ (w : Whole) (named revision index : ℕ) (request buffer : List ℕ) (of : OfCall w named revision index request buffer) where
  served : (call_result w named revision index request buffer).reply.verdict ≡ Ok tt → Served index buffer (call_result w named revision index request buffer)
  served e =
      let a = of.answers e in
      record { bytes = a.bytes; filled = a.written ∙ over_front_law a.bytes buffer; size = a.long; told = a.told; status_0 = λ other. a.begins (λ f. other (mask_at_0 index (ap mask? f))) }

  call_written_out : CallWrittenOut w named revision index request buffer
  call_written_out =
      record {
        judged = of.judged;
        by_R = λ number e.
            let l = of.leaves (R number) e in
            λ i. record { reply = record { verdict = e i; length = l.3 i }; after = record { cabinet = l.0 i; area = l.1 i }; answer = l.2 i };
        by_status = λ status ext e.
            let l = of.leaves (Status status ext) e in
            (λ i. record { reply = record { verdict = e i; length = l.3 i }; after = record { cabinet = l.0 i; area = l.1 i }; answer = l.2 i })
            ∙ (λ i. record { reply = record { verdict = Err (Status status ext); length = bytes_told status (row_of index).answer }; after = left_by (status =? 11) (named =? 0) w i; answer = over_front_law (le 2 status ++ le 2 ext ++ zeros (bytes_told status (row_of index).answer - 4)) buffer i });
        served = served;
      }

lends_too_little : (event : Event) → buffer_too_short event ≡ true → LendsTooLittle event
lends_too_little (call host named revision index request buffer) e = ltb-true (length buffer) 132 e
lends_too_little tick e = absurd (false≢true e)
lends_too_little (power named) e = absurd (false≢true e)
lends_too_little (reading named new) e = absurd (false≢true e)

names_no_module : (event : Event) → module_over1 event ≡ true → NamesNoModule event
names_no_module (call host named revision index request buffer) e = ltb-true 1 named e
names_no_module tick e = absurd (false≢true e)
names_no_module (power named) e = ltb-true 1 named e
names_no_module (reading named new) e = ltb-true 1 named e

reads_over_100 : (event : Event) → spare_over100 event ≡ true → ReadsOver100 event
reads_over_100 (call host named revision index request buffer) e = absurd (false≢true e)
reads_over_100 tick e = absurd (false≢true e)
reads_over_100 (power named) e = absurd (false≢true e)
reads_over_100 (reading named new) e = ltb-true 100 new.spare e

-- R1, R5 or R4, by the event
which : (event : Event) (number : ℕ) → MayGive number event
    → ((number ≡ 1) × LendsTooLittle event) ⊎ (((number ≡ 5) × NamesNoModule event) ⊎ ((number ≡ 4) × ReadsOver100 event))
which event number (inl q) = inl (q.0, lends_too_little event q.1)
which event number (inr (inl q)) = inr (inl (q.0, names_no_module event q.1))
which event number (inr (inr q)) = inr (inr (q.0, reads_over_100 event q.1))

reading_written_out : (w : Whole) (named : ℕ) (new : Reading) → OfReading w named new → ReadingWrittenOut w named new
reading_written_out w named new of =
    record {
      judged_so = of.judged;
      nothing_changed = λ refusal e. λ i. record { reply = record { verdict = e i; length = of.silent.0 i }; after = of.leaves refusal e i; answer = of.silent.1 i };
      kept_it = λ e.
          let placed = of.keeps e ∙ in_place (named =? 0) (device_keeping new) w in
          λ i. record { reply = record { verdict = e i; length = of.silent.0 i }; after = placed i; answer = of.silent.1 i };
    }

pub written_out : Demand1 → Demand1WrittenOut
written_out demand =
    record {
      calls = λ w named revision index request buffer. call_written_out w named revision index request buffer (demand.calls w named revision index request buffer);
      numbers = λ refusal. (
        λ g. (demand.calls g.0 g.1 g.2 g.3 g.4 g.5).numbers refusal g.6,
        λ a. let g = demand.each_given refusal a in (g.found, g.named, g.revision, g.index, g.request, g.answer, g.refused),
      );
      readings = λ w named new. reading_written_out w named new (demand.readings w named new);
      numbers_of_readings = λ refusal. (
        λ g. (demand.readings g.0 g.1 g.2).numbers refusal g.3,
        λ a. let g = demand.each_by_reading refusal a in (g.found, g.named, g.new, g.refused),
      );
      events = λ w event p l.
          let e = demand.events w event p l in
          record { stays_possible = e.stays_possible; stays_long = e.keeps_size; R1_R5_and_R4_alone = λ number r. which event number (e.no_other_R number r) };
      begins_possible = demand.fresh_possible;
    }
