-- Document 02, T-09: two cabinets that are alike to one module. It has the same record in both, and while it has the area, the same bytes received. What reaches the
-- module keeps them alike, where its Starts are answered alike; and what does not reach it does.
-- Assumes nothing.
use Prim.Native.Nat.{ℕ, ◌+◌, ◌-◌, ◌≤◌}
use mathlib.Core.{Path.{◌≡◌, refl, sym, ◌∙◌, ap, subst}, Bool.{Bool, true, false, not, ◌||◌}, List.{List, ◌++◌}}
use native.Mathlib.Omega.{arith}
use lib.ListN.{length, take}
use Rattle.std.specs.Prelude.{if◌then◌else◌}
use Rattle.rules.specs.{Tests.{◌=?◌, ◌<?◌}, Bytes.{number_at, splice}, Numbers.verification, Record.{◌is◌, has_area}, Fault.image_of, With.{◌with_phase◌, ◌with_received◌, ◌with_ticks◌, ◌with_transfer◌}}
use Rattle.rules.specs.Transfer.{TransferCall, GetFwInfo, Start, Send, Finish, Query, start_change, send_change, finish_change, after_verifying, tick_change, received_bytes}
use Rattle.rules.specs.{Module.device_ticked, Transfers.Answer, declared.Refusal.TheVariants.{R, Status}}
use Rattle.rules.specs.{declared.Phase.Phase, declared.Phase.TheVariants.{Idle, Receiving, Verifying}, declared.Transfer.Transfer, declared.Device.Device}
use Rattle.rules.proofs.{page.Choice.or_true, page.Le.of_le_le, page.Facts.{never, start_ok, send_ok, finish_ok, written, Tick, calm, counting, good, bad, tick_case}}
use Rattle.rules.proofs.{page.Keeps.{SeenOk, apart, other_does, tick_area}, page.Possible.Fine}
use Rattle.rules.proofs.page.Split.{Seen, turned, taken, part_of, ◌with_its_part◌, Doing, Transfers, Others, Powers, Reads, Act, Mine, Theirs, Ticks, answer_by, part_verdict, part_change, part_after, told, does, answers, nexts}
use Rattle.rules.specs.Refusals.{Verdict}
use Rattle.std.specs.Prelude.{Ok, Err}

pub record Alike (s u : Seen) : Type 0 where
  pub same_own : s.own ≡ u.own
  pub same_bytes : has_area s.own.transfer ≡ true → received_bytes s.own.transfer s.area ≡ received_bytes s.own.transfer u.area

pub alike_back : (s u : Seen) → Alike s u → Alike u s
alike_back s u a =
    record {
      same_own = sym a.same_own;
      same_bytes = subst (λ (d : Device). has_area d.transfer ≡ true → received_bytes d.transfer u.area ≡ received_bytes d.transfer s.area) a.same_own
          (λ e. sym (a.same_bytes e));
    }

-- the cabinet with this record for the module
infixl 10 ◌with_own◌
abbrev ◌with_own◌ : Seen → Device → Seen
s with_own d = record { own = d; other = s.other; given = s.given; area = s.area }

-- whether a module is asked for a Start
abbrev pub asks_start : Doing → Bool
asks_start (Transfers host a b GetFwInfo n answer) = false
asks_start (Transfers host a b Start n answer) = true
asks_start (Transfers host a b (Send context offset size piece) n answer) = false
asks_start (Transfers host a b (Finish flag reserved context) n answer) = false
asks_start (Transfers host a b (Query context) n answer) = false
asks_start (Others a b x n answer) = false
asks_start Powers = false
asks_start (Reads new) = false

-- all but a Start is answered from the module's own record alone
told_alike : (s u : Seen) (d : Doing) → asks_start d ≡ false → s.own ≡ u.own → told s d ≡ told u d
told_alike s u (Transfers host a b GetFwInfo n answer) f e = ap (λ (z : Device). told (s with_own z) (Transfers host a b GetFwInfo n answer)) e
told_alike s u (Transfers host a b Start n answer) f e = never f
told_alike s u (Transfers host a b (Send context offset size piece) n answer) f e =
    ap (λ (z : Device). told (s with_own z) (Transfers host a b (Send context offset size piece) n answer)) e
told_alike s u (Transfers host a b (Finish flag reserved context) n answer) f e =
    ap (λ (z : Device). told (s with_own z) (Transfers host a b (Finish flag reserved context) n answer)) e
told_alike s u (Transfers host a b (Query context) n answer) f e = ap (λ (z : Device). told (s with_own z) (Transfers host a b (Query context) n answer)) e
told_alike s u (Others a b x n answer) f e = ap (λ (z : Device). told (s with_own z) (Others a b x n answer)) e
told_alike s u Powers f e = refl
told_alike s u (Reads new) f e = refl

-- the verdict stands in the answer
judged : (v : Verdict) (n : ℕ) (bytes answer : List ℕ) → (answer_by v n bytes answer).reply.verdict ≡ v
judged (Ok tt) n bytes answer = refl
judged (Err (R number)) n bytes answer = refl
judged (Err (Status status ext)) n bytes answer = refl

-- and so does the context that a Start is given
context_told : (s : Seen) (host : ℕ) (a b : Bool) (n : ℕ) (answer : List ℕ) → Fine s → part_verdict (taken s) (part_of s) a b Start ≡ Ok tt
    → number_at 4 4 (told s (Transfers host a b Start n answer)).buffer ≡ s.given + 1
context_told s host a b n answer fine v =
    let left = (start_ok (taken s) (part_of s) a b v).left in
    rw v (of_le_le 4 (s.given + 1) (omega (arith, fine.fit)))

-- a piece that follows the received bytes is written behind the same bytes
written_alike : (s u : Seen) (offset size : ℕ) (piece : List ℕ) → SeenOk s → SeenOk u → offset ≡ s.own.transfer.received → size ≡ length piece → offset + size ≤ length s.area
    → received_bytes s.own.transfer s.area ≡ received_bytes s.own.transfer u.area
    → take (s.own.transfer.received + size) (splice offset piece s.area) ≡ take (s.own.transfer.received + size) (splice offset piece u.area)
written_alike s u offset size piece v w here long inside same =
    let n : s.own.transfer.received + size ≡ offset + length piece = omega (arith, here, long) in
    ap (λ (k : ℕ). take k (splice offset piece s.area)) n
    ∙ written s.area offset piece (omega (arith, inside, long))
    ∙ ap (λ (k : ℕ). take k s.area ++ piece) here
    ∙ ap (λ (z : List ℕ). z ++ piece) same
    ∙ ap (λ (k : ℕ). take k u.area ++ piece) (sym here)
    ∙ sym (written u.area offset piece (omega (arith, inside, long, v.part.size, w.part.size)))
    ∙ ap (λ (k : ℕ). take k (splice offset piece u.area)) (sym n)

-- a call that both accept, with the same answer
change_alike : (s u : Seen) (host : ℕ) (a b : Bool) (x : TransferCall) (n : ℕ) (answer : List ℕ) → Fine s → Fine u → Alike s u
    → part_verdict (taken s) (part_of s) a b x ≡ Ok tt → part_verdict (taken u) (part_of u) a b x ≡ Ok tt
    → told s (Transfers host a b x n answer) ≡ told u (Transfers host a b x n answer)
    → Alike (s with_its_part part_change (part_of s) x) (u with_its_part part_change (part_of u) x)
change_alike s u host a b GetFwInfo n answer v w k p q e = k
change_alike s u host a b Start n answer v w k p q e =
    let next : s.given + 1 ≡ u.given + 1 =
    sym (context_told s host a b n answer v p) ∙ ap (λ (z : Answer). number_at 4 4 z.buffer) e ∙ context_told u host a b n answer w q in
    let given : s.given ≡ u.given = omega (arith, next) in
    record {
      same_own =
          ap (λ (z : Device). z with_transfer start_change z.transfer s.given) k.same_own
          ∙ ap (λ (g : ℕ). u.own with_transfer start_change u.own.transfer g) given;
      same_bytes = λ f. refl;
    }
change_alike s u host a b (Send context offset size piece) n answer v w k p q e =
    let o = send_ok (taken s) (part_of s) a b context offset size piece p in
    record {
      same_own = ap (λ (z : Device). z with_transfer send_change z.transfer size) k.same_own;
      same_bytes = λ f.
          written_alike s u offset size piece v.ok w.ok o.here o.size_is (omega (arith, o.inside, v.ok.part.size)) (k.same_bytes f);
    }
change_alike s u host a b (Finish flag reserved context) n answer v w k p q e =
    record {
      same_own = ap (λ (z : Device). z with_transfer finish_change z.transfer flag) k.same_own;
      same_bytes = go (flag =? 0);
    }
  where
    has : has_area s.own.transfer ≡ true
    has = ap (λ (z : Phase). z is Receiving || z is Verifying) (finish_ok (taken s) (part_of s) a b flag reserved context p).at

    go : (c : Bool)
        → has_area (if c then s.own.transfer with_phase Verifying with_ticks verification else (s.own.transfer with_phase Idle with_received 0)) ≡ true
        → received_bytes (if c then s.own.transfer with_phase Verifying with_ticks verification else (s.own.transfer with_phase Idle with_received 0)) s.area
        ≡ received_bytes (if c then s.own.transfer with_phase Verifying with_ticks verification else (s.own.transfer with_phase Idle with_received 0)) u.area
    go true f = k.same_bytes has
    go false f = refl
change_alike s u host a b (Query context) n answer v w k p q e = k

-- what the module is asked to do keeps them alike, where it is answered alike
does_alike : (s u : Seen) (d : Doing) → Fine s → Fine u → Alike s u → told s d ≡ told u d → Alike (does s d) (does u d)
does_alike s u (Transfers host a b x n answer) v w k e =
    subst (λ (c : Verdict). Alike (s with_its_part part_after seen (part_of s) x) (u with_its_part part_after c (part_of u) x)) same (go seen refl)
  where
    seen : Verdict
    seen = part_verdict (taken s) (part_of s) a b x

    same : seen ≡ part_verdict (taken u) (part_of u) a b x
    same = sym (judged seen n _ answer) ∙ ap (λ (z : Answer). z.reply.verdict) e ∙ judged (part_verdict (taken u) (part_of u) a b x) n _ answer

    go : (c : Verdict) → seen ≡ c → Alike (s with_its_part part_after c (part_of s) x) (u with_its_part part_after c (part_of u) x)
    go (Ok tt) p = change_alike s u host a b x n answer v w k p (sym same ∙ p) e
    go (Err refusal) p = k
does_alike s u (Others a b x n answer) v w k e =
    record { same_own = ap (λ (z : Device). (does (s with_own z) (Others a b x n answer)).own) k.same_own; same_bytes = k.same_bytes }
does_alike s u Powers v w k e = record { same_own = ap (λ (z : Device). (does (s with_own z) Powers).own) k.same_own; same_bytes = λ f. refl }
does_alike s u (Reads new) v w k e =
    record { same_own = ap (λ (z : Device). (does (s with_own z) (Reads new)).own) k.same_own; same_bytes = k.same_bytes }

-- a tick: it looks at the received bytes alone, and only while the module has the area
tick_alike : (t : Transfer) (area another : List ℕ) → (has_area t ≡ true → received_bytes t area ≡ received_bytes t another) → tick_change t area ≡ tick_change t another
tick_alike t area another same = go (t.phase is Verifying) refl
  where
    go : (b : Bool) → (t.phase is Verifying) ≡ b → tick_change t area ≡ tick_change t another
    go false e = rw e
    go true e =
        ap (λ (bytes : List ℕ). if not (t.phase is Verifying) then t else if 1 <? t.ticks then t with_ticks (t.ticks - 1) else after_verifying t (image_of bytes))
        (same (or_true (t.phase is Receiving) (t.phase is Verifying) e))

tick_received : (t : Transfer) (area : List ℕ) → (tick_change t area).received ≡ t.received
tick_received t area = go (tick_case t area)
  where
    go : Tick t area → (tick_change t area).received ≡ t.received
    go (calm n e) = ap (λ (z : Transfer). z.received) e
    go (counting p l e) = ap (λ (z : Transfer). z.received) e
    go (good version p l i e) = ap (λ (z : Transfer). z.received) e
    go (bad p l i e) = ap (λ (z : Transfer). z.received) e

ticks_alike : (s u : Seen) → Alike s u → Alike (nexts s Ticks) (nexts u Ticks)
ticks_alike s u k =
    record {
      same_own = ap (λ (t : Transfer). s.own with_transfer t) (tick_alike s.own.transfer s.area u.area k.same_bytes) ∙ ap (device_ticked u.area) k.same_own;
      same_bytes = λ f.
          let r = tick_received s.own.transfer s.area in
          ap (λ (n : ℕ). take n s.area) r ∙ k.same_bytes (had (has_area s.own.transfer) refl f) ∙ ap (λ (n : ℕ). take n u.area) (sym r);
    }
  where
    had : (b : Bool) → has_area s.own.transfer ≡ b → has_area (tick_change s.own.transfer s.area) ≡ true → has_area s.own.transfer ≡ true
    had true e f = e
    had false e f = never (sym f ∙ tick_area s.own.transfer s.area e)

-- what the other module does, in one of the two cabinets
theirs_alike : (s u : Seen) (d : Doing) → SeenOk s → Alike s u → Alike (nexts s (Theirs d)) u
theirs_alike s u d w k =
    let o = other_does (turned s) d in
    record {
      same_own = o ∙ k.same_own;
      same_bytes = λ f.
          let has : has_area s.own.transfer ≡ true = ap (λ (z : Device). has_area z.transfer) (sym o) ∙ f in
          ap (λ (z : Device). received_bytes z.transfer (nexts s (Theirs d)).area) o
          ∙ ap (received_bytes s.own.transfer) ((apart s w d).quiet has).1
          ∙ k.same_bytes has
          ∙ ap (λ (z : Device). received_bytes z.transfer u.area) (sym o);
    }

-- The same of acts: whether one reaches the module, and whether it asks it for a Start.
abbrev pub is_own : Act → Bool
is_own (Mine d) = true
is_own (Theirs d) = false
is_own Ticks = true

abbrev pub is_start : Act → Bool
is_start (Mine d) = asks_start d
is_start (Theirs d) = false
is_start Ticks = false

pub own_answers : (s u : Seen) (f : Act) → is_own f ≡ true → is_start f ≡ false → Alike s u → answers s f ≡ answers u f
own_answers s u (Mine d) e g k = told_alike s u d g k.same_own
own_answers s u (Theirs d) e g k = never (sym e)
own_answers s u Ticks e g k = refl

pub own_alike : (s u : Seen) (f : Act) → is_own f ≡ true → Fine s → Fine u → Alike s u → answers s f ≡ answers u f → Alike (nexts s f) (nexts u f)
own_alike s u (Mine d) e v w k same = does_alike s u d v w k same
own_alike s u (Theirs d) e v w k same = never (sym e)
own_alike s u Ticks e v w k same = ticks_alike s u k

pub other_alike : (s u : Seen) (f : Act) → is_own f ≡ false → Fine s → Alike s u → Alike (nexts s f) u
other_alike s u (Mine d) e v k = never e
other_alike s u (Theirs d) e v k = theirs_alike s u d v.ok k
other_alike s u Ticks e v k = never e
