-- What an accepted transfer call tells of the record, call by call: what its checks, passed one by one, come to.
-- Assumes nothing.
use Prim.Native.Nat.{ℕ, ◌+◌, ◌-◌, ◌≤◌, ◌<◌}
use mathlib.Core.{Path.{◌≡◌, refl, sym, ◌∙◌, ap}, Bool.{Bool, true, false, not, ◌||◌, true≢false}, List.{List, ◌++◌, append_assoc}}
use native.Mathlib.Omega.{arith}
use lib.{ListN.{length, take, drop, length-append, length-take}, Seq.take_at}
use borrow.Author.Tests.{ltb-true, ltb-false, eqb-true, eqb-false, not-false}
use Rattle.std.specs.Prelude.{if◌then◌else◌}
use Rattle.rules.specs.{Tests.{◌=?◌, ◌<?◌}, Bytes.splice, Numbers.{area_size, longest_piece, last_context}, Record.{◌is◌, phase_number, current}}
use Rattle.rules.specs.{Refusals.{status_bytes}, With.{◌with_ticks◌, ◌with_phase◌, ◌with_staged◌, ◌with_reason◌, ◌with_faulty◌}, Fault.{reason_number, image_of}}
use Rattle.rules.specs.{Transfer.{TransferCall, Start, Send, Finish, Query, transfer_checks, transfer_answer, tick_change, received_bytes}, Transfers.Answer}
use Rattle.rules.specs.{Demand3.remains, declared.Refusal.TheVariants.{R, Status}}
use Rattle.rules.specs.{declared.Reason.Reason, declared.Phase.Phase}
use Rattle.rules.specs.{declared.Phase.TheVariants.{Idle, Receiving, Verifying, Staged, Failed}, declared.Transfer.Transfer}
use Rattle.rules.proofs.{page.Choice.{or_false, and_true}, page.Passed.{AllFalse, passed}}
use Rattle.rules.proofs.{page.Split.{TransferPart, front, answer_by, part_verdict, part_change, part_answer, part_next}, page.Through.{accepted_mild, transfer_mild}}
use Rattle.rules.specs.Refusals.{Verdict}
use Rattle.std.specs.Prelude.{Ok, Err}
use Rattle.rules.specs.Fault.{Image, bad_image}

pub never : {X : Type 0} → true ≡ false → X
never e = absurd (true≢false e)

-- the phase of a number
phase_numbered : ℕ → Phase
phase_numbered n = if n =? 0 then Idle else if n =? 1 then Receiving else if n =? 2 then Verifying else if n =? 3 then Staged else Failed

phase_back : (p : Phase) → phase_numbered (phase_number p) ≡ p
unfolding phase_numbered
phase_back Idle = refl
phase_back Receiving = refl
phase_back Verifying = refl
phase_back Staged = refl
phase_back Failed = refl

pub is_phase : (p q : Phase) → (p is q) ≡ true → p ≡ q
is_phase p q e = sym (phase_back p) ∙ ap phase_numbered (eqb-true (phase_number p) (phase_number q) e) ∙ phase_back q

-- a transfer call whose answer remains was accepted
answer_remains : (v : Verdict) (n : ℕ) (bytes answer : List ℕ) → remains (answer_by v n bytes answer).reply.verdict ≡ true → remains v ≡ true
answer_remains (Ok tt) n bytes answer e = e
answer_remains (Err (R number)) n bytes answer e = e
answer_remains (Err (Status status ext)) n bytes answer e = e

abbrev pub Kept : Answer → Type 0
Kept got = remains got.reply.verdict ≡ true

pub accepted_call : (k : Bool) (s : TransferPart) (a b : Bool) (x : TransferCall) (n : ℕ) (answer : List ℕ) → Kept (part_answer k s a b x n answer) → part_verdict k s a b x ≡ Ok tt
accepted_call k s a b x n answer kept =
    accepted_mild (part_verdict k s a b x) (transfer_mild s.transfer s.given k a b x)
    (answer_remains (part_verdict k s a b x) n (status_bytes 0 0 ++ transfer_answer s.transfer s.given x) answer kept)

-- an accepted call changes and answers what it says
pub changes : (k : Bool) (s : TransferPart) (a b : Bool) (x : TransferCall) → part_verdict k s a b x ≡ Ok tt → part_next k s a b x ≡ part_change s x
changes k s a b x v = rw v

pub replies : (k : Bool) (s : TransferPart) (a b : Bool) (x : TransferCall) (n : ℕ) (answer : List ℕ) → part_verdict k s a b x ≡ Ok tt
    → part_answer k s a b x n answer ≡ answer_by (Ok tt) n (status_bytes 0 0 ++ transfer_answer s.transfer s.given x) answer
replies k s a b x n answer v = rw v

-- it is served, and its request has the table's length
pub record Served (a b : Bool) : Type 0 where
  pub served : a ≡ false
  pub fitting : b ≡ false

pub was_served : (k : Bool) (s : TransferPart) (a b : Bool) (x : TransferCall) → part_verdict k s a b x ≡ Ok tt → Served a b
was_served k s a b x v =
    let w : AllFalse (front a b ++ transfer_checks s.transfer s.given k x) = passed (front a b ++ transfer_checks s.transfer s.given k x) v in
    record { served = w.0; fitting = w.1.0 }

pub record StartOk (t : Transfer) (given : ℕ) (k : Bool) : Type 0 where
  pub not_receiving : (t.phase is Receiving) ≡ false
  pub not_verifying : (t.phase is Verifying) ≡ false
  pub not_staged : (t.phase is Staged) ≡ false
  pub free : k ≡ false
  pub left : given ≡ last_context → ⊥

pub start_ok : (k : Bool) (s : TransferPart) (a b : Bool) → part_verdict k s a b Start ≡ Ok tt → StartOk s.transfer s.given k
start_ok k s a b v =
    let t : Transfer = s.transfer in
    let w : AllFalse (front a b ++ transfer_checks t s.given k Start) = passed (front a b ++ transfer_checks t s.given k Start) v in
    let q = or_false (t.phase is Receiving) (t.phase is Verifying) w.1.1.0 in
    record { not_receiving = q.0; not_verifying = q.1; not_staged = w.1.1.1.0; free = w.1.1.1.1.0; left = eqb-false s.given last_context w.1.1.1.1.1.0 }

pub record SendOk (t : Transfer) (context offset size : ℕ) (piece : List ℕ) : Type 0 where
  pub at : t.phase ≡ Receiving
  pub own : context ≡ current t
  pub here : offset ≡ t.received
  pub size_is : size ≡ length piece
  pub inside : offset + size ≤ area_size

pub send_ok : (k : Bool) (s : TransferPart) (a b : Bool) (context offset size : ℕ) (piece : List ℕ) → part_verdict k s a b (Send context offset size piece) ≡ Ok tt
    → SendOk s.transfer context offset size piece
send_ok k s a b context offset size piece v =
    let t : Transfer = s.transfer in
    let w : AllFalse (front a b ++ transfer_checks t s.given k (Send context offset size piece)) = passed (front a b ++ transfer_checks t s.given k (Send context offset size piece)) v in
    let long = or_false (not (size =? length piece) || size =? 0 || longest_piece <? size) (area_size <? offset + size) w.1.1.0 in
    let piece_long = or_false (not (size =? length piece) || size =? 0) (longest_piece <? size) long.0 in
    let exact = or_false (not (size =? length piece)) (size =? 0) piece_long.0 in
    let q = and_true (t.phase is Receiving) (context =? current t) (not-false _ w.1.1.1.0) in
    record {
      at = is_phase t.phase Receiving q.0;
      own = eqb-true context (current t) q.1;
      here = eqb-true offset t.received (not-false _ w.1.1.1.1.0);
      size_is = eqb-true size (length piece) (not-false _ exact.0);
      inside = ltb-false area_size (offset + size) long.1;
    }

pub record FinishOk (t : Transfer) (flag context : ℕ) : Type 0 where
  pub flag_ok : flag ≤ 1
  pub at : t.phase ≡ Receiving
  pub own : context ≡ current t

pub finish_ok : (k : Bool) (s : TransferPart) (a b : Bool) (flag : ℕ) (reserved : List ℕ) (context : ℕ) → part_verdict k s a b (Finish flag reserved context) ≡ Ok tt → FinishOk s.transfer flag context
finish_ok k s a b flag reserved context v =
    let t : Transfer = s.transfer in
    let w : AllFalse (front a b ++ transfer_checks t s.given k (Finish flag reserved context)) = passed (front a b ++ transfer_checks t s.given k (Finish flag reserved context)) v in
    let q = and_true (not (t.phase is Idle)) (context =? current t) (not-false _ w.1.1.1.1.0) in
    record {
      flag_ok = ltb-false 1 flag w.1.1.1.0;
      at = is_phase t.phase Receiving (not-false _ w.1.1.1.1.1.0);
      own = eqb-true context (current t) q.1;
    }

pub query_ok : (k : Bool) (s : TransferPart) (a b : Bool) (context : ℕ) → part_verdict k s a b (Query context) ≡ Ok tt → (s.transfer.phase is Receiving) ≡ false
query_ok k s a b context v = (passed (front a b ++ transfer_checks s.transfer s.given k (Query context)) v).1.1.1.0

-- what a tick does: the four cases
pub data Tick (t : Transfer) (area : List ℕ) : Type 0 where
  calm : (t.phase is Verifying) ≡ false → tick_change t area ≡ t → Tick t area
  counting : t.phase ≡ Verifying → 1 < t.ticks → tick_change t area ≡ t with_ticks (t.ticks - 1) → Tick t area
  good : (version : ℕ) → t.phase ≡ Verifying → t.ticks ≤ 1 → image_of (received_bytes t area) ≡ Ok version
      → tick_change t area ≡ t with_ticks 0 with_phase Staged with_staged version → Tick t area
  bad : {reason : Reason} {k : ℕ} → t.phase ≡ Verifying → t.ticks ≤ 1 → image_of (received_bytes t area) ≡ bad_image reason k
      → tick_change t area ≡ t with_ticks 0 with_phase Failed with_reason (reason_number reason) with_faulty k → Tick t area

pub tick_case : (t : Transfer) (area : List ℕ) → Tick t area
tick_case t area = at (t.phase is Verifying) refl (1 <? t.ticks) refl (image_of (received_bytes t area)) refl
  where
    at : (b : Bool) → (t.phase is Verifying) ≡ b → (c : Bool) → (1 <? t.ticks) ≡ c → (i : Image) → image_of (received_bytes t area) ≡ i → Tick t area
    at false e c f i g = calm e (rw e)
    at true e true f i g = counting (is_phase t.phase Verifying e) (ltb-true 1 t.ticks f) (rw (e, f))
    at true e false f (Ok version) g = good version (is_phase t.phase Verifying e) (ltb-false 1 t.ticks f) g (rw (e, f, g))
    at true e false f (Err fault) g = bad (is_phase t.phase Verifying e) (ltb-false 1 t.ticks f) g (rw (e, f, g))

-- the received bytes after a piece is written behind them
pub written : (area : List ℕ) (offset : ℕ) (piece : List ℕ) → offset + length piece ≤ length area → take (offset + length piece) (splice offset piece area) ≡ take offset area ++ piece
written area offset piece l =
    ap (take (offset + length piece)) (sym (append_assoc (take offset area) piece (drop (offset + length piece) area)))
    ∙ take_at (take offset area ++ piece) (drop (offset + length piece) area) (offset + length piece) (simp (length-append, length-take) (omega arith))
