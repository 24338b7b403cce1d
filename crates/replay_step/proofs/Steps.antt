-- One record of a log: what the cabinet promises is what the definition plays.
-- Assumes nothing.
use mathlib.Core.{Path.{◌≡◌, sym, ◌∙◌, subst}, List.List}
use Prim.Native.Nat.{ℕ, ◌+◌, ◌-◌, ◌≤◌}
use native.Mathlib.Omega.{arith}
use lib.ListN.{length, take, drop}
use Rattle.rules.{specs.Bytes.zeros, specs.Numbers.answer_room, specs.Record.{Whole, whole_of}, specs.Cabinet.{Result, call_result}, specs.Log.{entry_of, request_in}}
use Rattle.rules.{specs.Replay.{played}, specs.declared.Entry.Entry, specs.declared.Entry.TheVariants.Call, specs.declared.Cabinet.Cabinet}
use Rattle.log_record.proofs.IsCall.{is_call, request_part}
use Rattle.cabinet.{specs.Promise.Promised, specs.declared.Outcome.Outcome}
use Rattle.replay_step.specs.Stepped.{entry_reply, Stepped}
use Rattle.replay_step.proofs.AnyBuffer.{any_buffer}

-- an entry was played
pub record EntryStepped (w : Whole) (entry : Entry) (request area : List ℕ) (o : Outcome) : Type 0 where
  pub whole_is : whole_of o.cabinet area ≡ played w entry request
  pub reply_is : o.reply ≡ entry_reply w entry request

whole_path : {c d : Cabinet} {area area' : List ℕ} → c ≡ d → area ≡ area' → whole_of c area ≡ whole_of d area'
whole_path p q = λ i. record { cabinet = p i; area = q i }

-- a record whose entry is known
pub as_entry : (w : Whole) (bytes : List ℕ) (entry : Entry) {read : Entry} {area : List ℕ} {o : Outcome}
    → read ≡ entry_of bytes → read ≡ entry → EntryStepped w entry (request_in bytes) area o → Stepped w bytes area o
as_entry w bytes entry {area = area} {o} decoded told s =
    let known = subst (λ (e : Entry). EntryStepped w e (request_in bytes) area o) (sym told ∙ decoded) s in
    record { whole_is = known.whole_is; reply_is = known.reply_is }

-- what the cabinet promises of a tick, a power cycle or a reading
pub event_stepped : {result : Result} {o : Outcome} {area answer : List ℕ} → Promised result o area answer
    → (whole_of o.cabinet area ≡ result.after) × (o.reply ≡ result.reply)
event_stepped p = (whole_path p.cabinet_is p.area_is, p.reply_is)

-- a call, whose answer buffer holds anything
call_stepped : (w : Whole) (named host revision index size : ℕ) (request answer : List ℕ) {o : Outcome} {area' answer' : List ℕ}
    → length answer ≡ answer_room → Promised (call_result w named revision index request answer) o area' answer'
    → EntryStepped w (Call named host revision index size) request area' o
call_stepped w named host revision index size request answer long p =
    let same = any_buffer w named revision index request answer (zeros answer_room) long in
    record { whole_is = whole_path p.cabinet_is p.area_is ∙ same.after_is; reply_is = p.reply_is ∙ same.reply_is }

-- a call's record: the part that is lent is its request
pub as_call : (w : Whole) (bytes answer : List ℕ) {named host revision index size : ℕ} {read : Entry} {o : Outcome} {area' answer' : List ℕ}
    → read ≡ entry_of bytes → read ≡ Call named host revision index size → length answer ≡ answer_room
    → Promised (call_result w named revision index (take (8 + size - 8) (drop 8 bytes)) answer) o area' answer'
    → Stepped w bytes area' o
as_call w bytes answer {named} {host} {revision} {index} {size} {o = o} {area'} {answer'} decoded told long p =
    as_entry w bytes (Call named host revision index size) decoded told
    (call_stepped w named host revision index size (request_in bytes) answer long
    (subst (λ (request : List ℕ). Promised (call_result w named revision index request answer) o area' answer')
    (request_part bytes (is_call bytes (sym decoded ∙ told)).size_is) p))

-- the request of a call ends within its record
pub request_within : (bytes : List ℕ) {read : Entry} {named host revision index size : ℕ} → read ≡ entry_of bytes → read ≡ Call named host revision index size
    → 8 + size ≤ length bytes
request_within bytes decoded told =
    let call = is_call bytes (sym decoded ∙ told) in
    omega (arith, call.most, call.long)
