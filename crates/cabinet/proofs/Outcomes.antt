-- A verdict that is known settles the definition's result: what a call, a tick, a power cycle and a reading come to.
-- Assumes nothing.
use mathlib.Core.{Path.{◌≡◌, refl, sym, ◌∙◌, ap, subst}, Bool.{Bool, true, false}, List.{List, [], ◌∷◌, ◌++◌}}
use Prim.Native.Nat.{ℕ, ◌≤◌, ◌-◌}
use lib.{Dec.lit≤, ListN.length}
use Rattle.std.specs.Prelude.{if◌then◌else◌}
use Rattle.rules.{specs.Tests.{◌=?◌}, specs.Bytes.zeros, specs.Numbers.answer_room, specs.Record.{Whole, whole_of, standing}}
use Rattle.rules.{specs.Refusals.{Check, verdict, status_bytes, status_length, answer_after, record_left}, specs.Table.{row_of, served_check, length_check}}
use Rattle.rules.{specs.Module.{call_of, call_in, checks}, specs.Cabinet.{Result, gate_checks, call_checks, outcome, happened, call_result}}
use Rattle.rules.{specs.declared.Refusal.Refusal, specs.declared.Refusal.TheVariants.{R, Status}}
use Rattle.rules.{specs.declared.Row.Row, specs.declared.Cabinet.Cabinet, proofs.page.Passed.both_accepted}
use Rattle.rules.{proofs.page.Past.{NoR, EventPassed, call_passed}, proofs.page.Fitting.{Fitting, gate_fits, answers}}
use Rattle.cabinet.specs.{declared.Outcome.Outcome, Promise.{Promised, Served}}
use Rattle.rules.specs.Refusals.{Verdict}
use Rattle.std.specs.Prelude.{Ok, Err}

abbrev given : Cabinet → Verdict → ℕ → Outcome
given cabinet v n = record { cabinet = cabinet; reply = record { verdict = v; length = n } }

module _ (w : Whole) (named revision index : ℕ) (request answer : List ℕ) (row : Row) (looked_up : row ≡ row_of index) where
  abbrev result : Result
  result = call_result w named revision index request answer

  abbrev judged : Verdict
  judged = verdict (call_checks w named revision index request answer)

  -- the row's function makes the call, and the row has its answer's length
  settled : {o : Outcome} {v : Verdict} {cabinet : Cabinet} {n : ℕ} {area' answer' : List ℕ} (settles : Verdict)
      → v ≡ judged → v ≡ settles → o ≡ given cabinet v n
      → Promised (outcome settles w named (call_of row.function revision request) row.answer answer) (given cabinet settles n) area' answer'
      → Promised result o area' answer'
  unfolding call_result
  settled {o} {v} {cabinet} {n} {area'} {answer'} settles j e k p =
      subst (λ (x : Outcome). Promised result x area' answer') (sym (k ∙ ap (λ (x : Verdict). given cabinet x n) e))
      (subst (λ (x : Verdict). Promised (outcome x w named (call_in revision index request) (row_of index).answer answer) (given cabinet settles n) area' answer') (sym e ∙ j)
      (subst (λ (r : Row). Promised (outcome settles w named (call_of r.function revision request) r.answer answer) (given cabinet settles n) area' answer') looked_up p))

  pub as_accepted : {o : Outcome} {v : Verdict} {cabinet : Cabinet} {area' answer' : List ℕ}
      → v ≡ judged → v ≡ Ok tt → o ≡ given cabinet v row.answer
      → Served w named (call_of row.function revision request) answer (whole_of cabinet area') answer'
      → Promised result o area' answer'
  as_accepted j e k s =
      settled (Ok tt) j e k
      (record {
        reply_is = refl;
        cabinet_is = ap (λ (x : Whole). x.cabinet) s.after_is;
        area_is = ap (λ (x : Whole). x.area) s.after_is;
        answer_is = s.answer_is;
      })

  pub as_R : {o : Outcome} {v : Verdict} (number : ℕ) → v ≡ judged → v ≡ Err (R number) → o ≡ given w.cabinet v 0 → Promised result o w.area answer
  as_R number j e k =
      settled (Err (R number)) j e k (record { reply_is = refl; cabinet_is = refl; area_is = refl; answer_is = refl })

  pub as_status : {o : Outcome} {v : Verdict} {cabinet : Cabinet} {answer' : List ℕ} (status ext n : ℕ)
      → v ≡ judged → v ≡ Err (Status status ext) → o ≡ given cabinet v n → n ≡ status_length status row.answer
      → cabinet ≡ record_left status named w.cabinet
      → answer' ≡ answer_after (status_bytes status ext ++ zeros (n - 4)) answer
      → Promised result o w.area answer'
  as_status status ext n j e k l f g =
      settled (Err (Status status ext)) j e k
      (record {
        reply_is = ap (λ (x : ℕ). record { verdict = Err (Status status ext); length = x }) l;
        cabinet_is = f;
        area_is = refl;
        answer_is = g ∙ ap (λ (x : ℕ). answer_after (status_bytes status ext ++ zeros (x - 4)) answer) l;
      })

  -- what holds where no R number was given
  pub room : (v : Verdict) → judged ≡ v → NoR v → answer_room ≤ length answer
  room v e n = (call_passed w named answer (served_check revision index ∷ length_check index request ∷ checks (standing named w) (call_in revision index request)) v e n).0

  pub event_checks_law : (v : Verdict) → judged ≡ v → NoR v → EventPassed w
  event_checks_law v e n = (call_passed w named answer (served_check revision index ∷ length_check index request ∷ checks (standing named w) (call_in revision index request)) v e n).1.0

  -- an accepted call: its request has the bytes that it reads, and its own checks have passed
  pub fits : judged ≡ Ok tt → Fitting row.function (length request)
  fits e =
      subst (λ (r : Row). Fitting r.function (length request)) (sym looked_up)
      (gate_fits w named revision index request answer (both_accepted (gate_checks w named revision index request answer) _ e).0)

  pub own_checks : judged ≡ Ok tt → verdict (checks (standing named w) (call_of row.function revision request)) ≡ Ok tt
  own_checks e =
      ap (λ (r : Row). verdict (checks (standing named w) (call_of r.function revision request))) looked_up
      ∙ (both_accepted (gate_checks w named revision index request answer) (checks (standing named w) (call_in revision index request)) e).1

  -- an answer with a status has 4 to 132 bytes
  pub status_fits : (status : ℕ) → (4 ≤ status_length status row.answer) × (status_length status row.answer ≤ 132)
  status_fits status = go (status =? 1) (subst (λ (r : Row). (4 ≤ r.answer) × (r.answer ≤ 132)) (sym looked_up) (answers index))
    where
      go : (unserved : Bool) → (4 ≤ row.answer) × (row.answer ≤ 132) → (4 ≤ (if unserved then 4 else row.answer)) × ((if unserved then 4 else row.answer) ≤ 132)
      go true h = (lit≤ tt, lit≤ tt)
      go false h = h

-- a tick, a power cycle or a reading, judged by these rows, which leaves the area
module _ (w : Whole) (changed : Cabinet) (rows : List Check) where
  abbrev came : Result
  came = happened (verdict rows) (whole_of changed w.area) w

  happens : {o : Outcome} {v : Verdict} {cabinet : Cabinet} (settles : Verdict)
      → v ≡ verdict rows → v ≡ settles → o ≡ given cabinet v 0
      → Promised (happened settles (whole_of changed w.area) w) (given cabinet settles 0) w.area []
      → Promised came o w.area []
  happens {o} {v} {cabinet} settles j e k p =
      subst (λ (x : Outcome). Promised came x w.area []) (sym (k ∙ ap (λ (x : Verdict). given cabinet x 0) e))
      (subst (λ (x : Verdict). Promised (happened x (whole_of changed w.area) w) (given cabinet settles 0) w.area []) (sym e ∙ j) p)

  pub as_changed : {o : Outcome} {v : Verdict} {cabinet : Cabinet} → v ≡ verdict rows → v ≡ Ok tt → o ≡ given cabinet v 0 → cabinet ≡ changed
      → Promised came o w.area []
  as_changed j e k f = happens (Ok tt) j e k (record { reply_is = refl; cabinet_is = f; area_is = refl; answer_is = refl })

  pub as_left : {o : Outcome} {v : Verdict} (refusal : Refusal) → v ≡ verdict rows → v ≡ Err refusal → o ≡ given w.cabinet v 0
      → Promised came o w.area []
  as_left refusal j e k =
      happens (Err refusal) j e k (record { reply_is = refl; cabinet_is = refl; area_is = refl; answer_is = refl })
