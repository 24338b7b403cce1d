-- A reply of the cabinet can be kept: wherever the record is written, its bytes are 288, and those of the other module are as they were; and what was kept is
-- what the C function promises.
-- Assumes nothing.
use mathlib.Core.{Path.{◌≡◌, refl, sym, ◌∙◌, ap, subst}, Bool.{Bool, true, false, false≢true}, List.{List, [], ◌∷◌, ◌++◌}}
use Prim.Native.Nat.{ℕ, ◌≤◌}
use native.Mathlib.Omega.{arith}
use lib.{Dec.lit≤, IntN.ℤ, ListN.length}
use borrow.Author.Tests.{not-false}
use Rattle.std.specs.Prelude.{if◌then◌else◌}
use Rattle.rules.{specs.Tests.{◌=?◌}, specs.Numbers.answer_room, specs.Record.{possible_cabinet, device_of, other_of, with_device_at, Whole, whole_of, standing}}
use Rattle.rules.{specs.Refusals.{Check, verdict, tick_checks, event_checks, status_length, one_attempt_more, record_left}, specs.Table.{row_of, served_check, length_check}}
use Rattle.rules.{specs.Module.{call_in, checks, change}, specs.Cabinet.{Result, call_checks, outcome, happened, ticked, call_result}, specs.declared.Refusal.TheVariants.{R, Status}}
use Rattle.rules.{specs.declared.Reply.Reply, specs.declared.Device.Device}
use Rattle.rules.{specs.declared.Cabinet.Cabinet, proofs.page.Choice.if_both, proofs.page.Passed.past_rows}
use Rattle.rules.{proofs.page.Past.{NoR, not_by_event, event_passed, call_passed}, proofs.page.Fitting.answers}
use Rattle.bytes_numbers.proofs.Bytes.{Bytes}
use Rattle.cabinet.{specs.Promise.Promised, specs.declared.Outcome.Outcome}
use Rattle.cabinet_bytes.{specs.Encoding.decode_cabinet, proofs.Refused.possible_whole, proofs.Placed.around}
use Rattle.abi_keep.specs.Kept.{told, kept_by, kept, Keepable, KeepableNamed}
use Rattle.abi.specs.Abi.{Called, Happened}
use Rattle.rules.specs.Refusals.{Verdict}
use Rattle.std.specs.Prelude.{Ok, Err}

-- an answer with a status is no longer than the function's
status_short : (status n : ℕ) → n ≤ 132 → status_length status n ≤ answer_room
status_short status n h = go (status =? 1)
  where
    go : (unserved : Bool) → (if unserved then 4 else n) ≤ answer_room
    go true = lit≤ tt
    go false = omega arith

-- a module put in its place leaves the other
other_kept : (named : ℕ) (d : Device) (c : Cabinet) → other_of named (with_device_at named d c) ≡ other_of named c
other_kept named d c = go (named =? 0)
  where
    go : (b : Bool) → (if b then (if b then c.second else d) else (if b then d else c.first)) ≡ (if b then c.second else c.first)
    go true = refl
    go false = refl

left_kept : (status named : ℕ) (c : Cabinet) → other_of named (record_left status named c) ≡ other_of named c
left_kept status named c =
    if_both (λ (x : Cabinet). other_of named x ≡ other_of named c) (status =? 11) (other_kept named (one_attempt_more (device_of named c)) c) refl

-- a call's reply can be kept
module _ (bytes area : List ℕ) (known : Bytes bytes) (named revision index : ℕ) (request answer : List ℕ) where
  abbrev c : Cabinet
  c = decode_cabinet bytes

  abbrev w : Whole
  w = whole_of c area

  abbrev came : Verdict → Result
  came v = outcome v w named (call_in revision index request) (row_of index).answer answer

  through : (v : Verdict) → verdict (call_checks w named revision index request answer) ≡ v → NoR v → possible_cabinet c ≡ true
  through v e n =
      (call_passed w named answer (served_check revision index ∷ length_check index request ∷ checks (standing named w) (call_in revision index request)) v e n).1.0.sound

  replied : (v : Verdict) → verdict (call_checks w named revision index request answer) ≡ v → KeepableNamed (came v).reply (came v).after.cabinet named bytes
  replied (Ok tt) e =
      let h = (answers index).1 in
      let changed = (change (standing named w) (call_in revision index request)).device in
      record { around = λ f. around named (came (Ok tt)).after.cabinet bytes known (through (Ok tt) e tt) (other_kept named changed c); short = omega arith }
  replied (Err (R number)) e = record { around = λ f. absurd (false≢true f); short = lit≤ tt }
  replied (Err (Status status ext)) e =
      record {
        around = λ f. around named (record_left status named c) bytes known (through (Err (Status status ext)) e tt) (left_kept status named c);
        short = status_short status (row_of index).answer (answers index).1;
      }

  pub call_keepable : {o : Outcome} {area' answer' : List ℕ} → Promised (call_result w named revision index request answer) o area' answer'
      → KeepableNamed o.reply o.cabinet named bytes
  unfolding call_result
  call_keepable {o = o} p =
      subst (λ (r : Reply). KeepableNamed r o.cabinet named bytes) (sym p.reply_is)
      (subst (λ (x : Cabinet). KeepableNamed (came (verdict (call_checks w named revision index request answer))).reply x named bytes) (sym p.cabinet_is) (replied _ refl))

-- a power cycle's and a reading's too, whose own rows come after those of every event
module _ (bytes area : List ℕ) (known : Bytes bytes) (named : ℕ) (changed : Device) (later : List Check) where
  abbrev was : Whole
  was = whole_of (decode_cabinet bytes) area

  abbrev next : Whole
  next = whole_of (with_device_at named changed (decode_cabinet bytes)) area

  went : (v : Verdict) → verdict (event_checks was named ++ later) ≡ v → NoR v → possible_cabinet (decode_cabinet bytes) ≡ true
  went v e n = (event_passed was named later v e (not_by_event was named v n)).0.sound

  happening : (v : Verdict) → verdict (event_checks was named ++ later) ≡ v → KeepableNamed (happened v next was).reply (happened v next was).after.cabinet named bytes
  happening (Ok tt) e =
      record { around = λ f. around named next.cabinet bytes known (went (Ok tt) e tt) (other_kept named changed (decode_cabinet bytes)); short = lit≤ tt }
  happening (Err (R number)) e = record { around = λ f. absurd (false≢true f); short = lit≤ tt }
  happening (Err (Status status ext)) e =
      record { around = λ f. around named was.cabinet bytes known (went (Err (Status status ext)) e tt) refl; short = lit≤ tt }

  pub event_keepable : {o : Outcome} {area' answer' : List ℕ} → Promised (happened (verdict (event_checks was named ++ later)) next was) o area' answer'
      → KeepableNamed o.reply o.cabinet named bytes
  event_keepable {o = o} p =
      subst (λ (r : Reply). KeepableNamed r o.cabinet named bytes) (sym p.reply_is)
      (subst (λ (x : Cabinet). KeepableNamed (happened (verdict (event_checks was named ++ later)) next was).reply x named bytes) (sym p.cabinet_is) (happening _ refl))

-- and a tick's, which writes all of the record
module _ (bytes area : List ℕ) where
  abbrev at : Whole
  at = whole_of (decode_cabinet bytes) area

  passed : (v : Verdict) → verdict (tick_checks at) ≡ v → NoR v → length bytes ≡ 288
  passed v e n =
      let q = past_rows (tick_checks at) [] v e (λ p. subst NoR p n, (λ p. subst NoR p n, tt)) in
      possible_whole bytes (not-false (possible_cabinet (decode_cabinet bytes)) q.0.1.0)

  ticking : (v : Verdict) → verdict (tick_checks at) ≡ v → Keepable (happened v (ticked at) at).reply bytes
  ticking (Ok tt) e = record { sized = λ f. passed (Ok tt) e tt; short = lit≤ tt }
  ticking (Err (R number)) e = record { sized = λ f. absurd (false≢true f); short = lit≤ tt }
  ticking (Err (Status status ext)) e = record { sized = λ f. passed (Err (Status status ext)) e tt; short = lit≤ tt }

  pub tick_keepable : {o : Outcome} {area' answer' : List ℕ} → Promised (happened (verdict (tick_checks at)) (ticked at) at) o area' answer' → Keepable o.reply bytes
  tick_keepable p = subst (λ (r : Reply). Keepable r bytes) (sym p.reply_is) (ticking _ refl)

-- the record that was decoded is the one whose result is promised
pub of_decoded : (f : Cabinet → Result) {d e : Cabinet} {o : Outcome} {area' answer' : List ℕ} → d ≡ e → Promised (f d) o area' answer' → Promised (f e) o area' answer'
of_decoded f {o = o} {area' = area'} {answer' = answer'} q p = subst (λ (x : Cabinet). Promised (f x) o area' answer') q p

-- the cabinet's promise, kept in the bytes
module _ (result : Result) (bytes : List ℕ) {o : Outcome} {number : ℤ} {bytes' area' answer' : List ℕ}
    (p : Promised result o area' answer') (h : (number ≡ told o.reply) × (bytes' ≡ kept_by o.reply.verdict o.cabinet bytes)) where
  same_kept : kept_by o.reply.verdict o.cabinet bytes ≡ kept result bytes
  same_kept = λ i. kept_by (p.reply_is i).verdict (p.cabinet_is i) bytes

  pub called : Called result bytes number bytes' area' answer'
  called =
      record {
        number_is = h.0 ∙ ap told p.reply_is;
        record_is = h.1 ∙ same_kept;
        area_is = p.area_is;
        answer_is = p.answer_is;
      }

  pub occurred : Happened result bytes number bytes'
  occurred = record { number_is = h.0 ∙ ap told p.reply_is; record_is = h.1 ∙ same_kept }
