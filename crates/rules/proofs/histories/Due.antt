-- Staging, both ways: a tick stages a version in a module exactly when the history ends with a good image's Finish there and seven ticks. All is seen from the module.
-- Assumes nothing.
use Prim.Native.Nat.{ℕ, ◌+◌, ◌-◌, ◌≤◌, ◌<◌}
use mathlib.Core.{Path.{◌≡◌, refl, sym, ◌∙◌, ap, subst}, Bool.{Bool, true, false, not, ◌||◌}, List.{[], List, ◌∷◌, ◌++◌, append_assoc, append-nil}}
use native.Mathlib.Omega.{arith}
use borrow.Author.Tests.{eqb-true, ne_eqb}
use Rattle.std.specs.Prelude.{if◌then◌else◌}
use Rattle.rules.specs.{Tests.{◌=?◌}, Numbers.verification, With.{◌with_ticks◌, ◌with_phase◌, ◌with_received◌}, Record.{◌is◌, Whole}, Fault.image_of, Refusals.refused?}
use Rattle.rules.specs.{Transfer.{TransferCall, GetFwInfo, Start, Send, Finish, Query, received_bytes}, Module.OnTransfer, Cabinet.tick, History.{Plays, end, All, after_exchange}}
use Rattle.rules.specs.Transfers.{Answer, machine, Exchange, History, Kind, Started, Sent, Finished, Ticked, Other, call_kind, kind_of, Open, none, by, bytes_so_far, ContextIs, InOrder, AllInOrder, open_next}
use Rattle.rules.specs.{Sends.{own_sends, pieces, FinishedIn, tick_count, ticks_in, power_count, power_cycles}, Demand3.{remains, Sound, Due}, declared.Phase.Phase}
use Rattle.rules.specs.{declared.Phase.TheVariants.{Idle, Receiving, Verifying}, declared.Transfer.Transfer}
use Rattle.rules.proofs.histories.Joining.{all_right, plays_right, end_join, counted_along, total_join, leads_join, throughout_left, total_none}
use Rattle.rules.proofs.page.Split.{Seen, seen_from, number, taken, TransferPart, part_of, Doing, Transfers, Others, Powers, Reads, Act, Mine, Theirs, Ticks, act, part_change, part_next, part_tick, told, does, answers, nexts, doing_kind, act_kind, ◌with_part◌}
use Rattle.rules.proofs.{page.Through.kind_act, page.Facts.{never, Kept, accepted_call, changes, send_ok, finish_ok, Tick, calm, counting, good, bad, tick_case}, page.Keeps.apart}
use Rattle.rules.proofs.{page.Possible.{Fine, sound_fine, sound_through, sound_next}, histories.Gate.{Remains, Unstopped, unstopped, module_there, inwards, sound_end}, histories.KindOf.{other_number, good_accepted, accepted_good, FinishAct, finished_act}}
use Rattle.rules.proofs.{histories.Order.{open_at_end, Fits, to_side, opens, goes, orders, chosen}, histories.Pieces.{received, Opened, opened}}
use Rattle.rules.proofs.{histories.Stage.{Ripe, quiet, busy, no_tick}, histories.Moved.its_module, histories.Places.own_number}

abbrev pub bytes_of : TransferPart → List ℕ
bytes_of s = received_bytes s.transfer s.area

-- a call is no power cycle, and what the other module is asked is none of this one
no_power_if : (own : ℕ) (b : Bool) (k : Kind) → power_count own k ≡ 0 → power_count own (if b then Other else k) ≡ 0
no_power_if own true k e = refl
no_power_if own false k e = e

no_power : (own named host : ℕ) (x : TransferCall) (got : Answer) → power_count own (call_kind named host (OnTransfer x) got) ≡ 0
no_power own named host GetFwInfo got = refl
no_power own named host Start got = no_power_if own (refused? got.reply.verdict) (Started named host _) refl
no_power own named host (Send context offset size piece) got = no_power_if own (refused? got.reply.verdict) (Sent named host context offset piece) refl
no_power own named host (Finish flag reserved context) got = no_power_if own (refused? got.reply.verdict) (Finished named host context flag) refl
no_power own named host (Query context) got = refl

theirs_tick : (named : ℕ) (d : Doing) (got : Answer) → tick_count (doing_kind named d got) ≡ 0
theirs_tick named (Transfers host a b x n answer) got = no_tick named host x got
theirs_tick named (Others a b x n answer) got = refl
theirs_tick named Powers got = refl
theirs_tick named (Reads new) got = refl

theirs_power : (first : Bool) (d : Doing) (got : Answer) → power_count (number first) (doing_kind (number (not first)) d got) ≡ 0
theirs_power first (Transfers host a b x n answer) got = no_power (number first) (number (not first)) host x got
theirs_power first (Others a b x n answer) got = refl
theirs_power first Powers got = ap (λ (b : Bool). if b then 1 else 0) (ne_eqb (number (not first)) (number first) (other_number first))
theirs_power first (Reads new) got = refl

-- a module that verifies has the area, so that what the other is asked leaves its part
theirs_part : (s : Seen) (d : Doing) → Fine s → s.own.transfer.phase ≡ Verifying → part_of (nexts s (Theirs d)) ≡ part_of s
theirs_part s d w p =
    let a = apart s w.ok d in
    let q = a.quiet (ap (λ (z : Phase). z is Receiving || z is Verifying) p) in
    λ i. record { transfer = a.same i; given = q.0 i; area = q.1 i }

-- While it verifies the ticks are counted, and the bytes stay
pub record Held (s u : TransferPart) (n : ℕ) : Type 0 where
  pub at : u.transfer.phase ≡ Verifying
  pub count : u.transfer.ticks + n ≡ s.transfer.ticks
  pub bytes : bytes_of u ≡ bytes_of s

held_tick : (s : TransferPart) → s.transfer.phase ≡ Verifying → 1 < s.transfer.ticks → Held s (part_tick s) 1
held_tick s p l = go (tick_case s.transfer s.area)
  where
    go : Tick s.transfer s.area → Held s (part_tick s) 1
    go (calm n e) = never (sym (ap (λ (z : Phase). z is Verifying) p) ∙ n)
    go (counting q k e) = subst (λ (t : Transfer). Held s (s with_part t) 1) (sym e) (record { at = p; count = omega arith; bytes = refl })
    go (good version q k i e) = absurd (omega arith)
    go (bad q k i e) = absurd (omega arith)

-- the same part, and no tick
held_same : (s u : TransferPart) (n : ℕ) → u ≡ s → n ≡ 0 → s.transfer.phase ≡ Verifying → Held s u n
held_same s u n e z p = subst (λ (v : TransferPart). Held s v n) (sym e) (record { at = p; count = omega (arith, z); bytes = refl })

held_act : (first : Bool) (s : Seen) (f : Act) (got : Answer) → Fine s → s.own.transfer.phase ≡ Verifying → power_count (number first) (act_kind first f got) ≡ 0
    → tick_count (act_kind first f got) < s.own.transfer.ticks → Held (part_of s) (part_of (nexts s f)) (tick_count (act_kind first f got))
held_act first s (Mine (Transfers host a b x n answer)) got w p z l =
    held_same (part_of s) _ _ (quiet (taken s) (part_of s) a b x (ap busy p)) (no_tick (number first) host x got) p
held_act first s (Mine (Others a b x n answer)) got w p z l = held_same (part_of s) (part_of s) 0 refl refl p
held_act first s (Mine Powers) got w p z l = absurd (omega (arith, own_number first))
held_act first s (Mine (Reads new)) got w p z l = held_same (part_of s) (part_of s) 0 refl refl p
held_act first s (Theirs d) got w p z l = held_same (part_of s) (part_of (nexts s (Theirs d))) _ (theirs_part s d w p) (theirs_tick (number (not first)) d got) p
held_act first s Ticks got w p z l = held_tick (part_of s) p l

-- one exchange more
held_step : (first : Bool) (s : TransferPart) (n : ℕ) (w : Whole) (x : Exchange) → Sound w → Unstopped x → power_count (number first) (kind_of x) ≡ 0
    → (n < s.transfer.ticks → Held s (part_of (seen_from first w)) n) → n + tick_count (kind_of x) < s.transfer.ticks
    → Held s (part_of (seen_from first (machine.next w x.event))) (n + tick_count (kind_of x))
held_step first s n w x sound u z h l =
    let e = kind_act first x (module_there x u) in
    let a = h (omega arith) in
    let b = held_act first (seen_from first w) (act first x.event) x.got (sound_fine first w sound) a.at (omega (arith, z, ap (power_count (number first)) e)) (omega (arith, l, a.count, ap tick_count e)) in
    subst (λ (v : Seen). Held s (part_of v) (n + tick_count (kind_of x))) (sym (sound_through first w x.event sound u).nexts_as)
    (record { at = b.at; count = omega (arith, a.count, b.count, ap tick_count e); bytes = b.bytes ∙ a.bytes })

both_all : (first : Bool) (h : History) → All Unstopped h → All (λ x. power_count (number first) (kind_of x) ≡ 0) h → All (λ x. Unstopped x × (power_count (number first) (kind_of x) ≡ 0)) h
both_all first [] a b = tt
both_all first (x ∷ h) a b = ((a.0, b.0), both_all first h a.1 b.1)

pub held : (first : Bool) (w : Whole) (h : History) → Sound w → All Unstopped h → (seen_from first w).own.transfer.phase ≡ Verifying → power_cycles (number first) h ≡ 0
    → ticks_in h < (seen_from first w).own.transfer.ticks → Held (part_of (seen_from first w)) (part_of (seen_from first (end machine w h))) (ticks_in h)
held first w h sound u p z l =
    (counted_along (after_exchange machine) (λ x. tick_count (kind_of x)) (λ x. Unstopped x × (power_count (number first) (kind_of x) ≡ 0))
    (λ n v. Sound v × (n < (seen_from first w).own.transfer.ticks → Held (part_of (seen_from first w)) (part_of (seen_from first v)) n))
    (λ n v x q g. (sound_next v x.event g.0, held_step first (part_of (seen_from first w)) n v x g.0 q.0 q.1 g.1)) w h
    (both_all first h u (total_none (λ x. power_count (number first) (kind_of x)) h z))
    (sound, λ k. record { at = p; count = omega arith; bytes = refl })).1 l

-- what an accepted Finish without abort leaves: its reserved bytes are nothing to it
pub after_finish : (first : Bool) (w : Whole) (x : Exchange) (host context : ℕ) → Sound w → Unstopped x → kind_of x ≡ Finished (number first) host context 0 → machine.answer w x.event ≡ x.got
    → part_of (seen_from first (machine.next w x.event)) ≡ part_change (part_of (seen_from first w)) (Finish 0 [] context)
after_finish first w x host context sound u k p =
    let s : Seen = seen_from first w in
    let t = sound_through first w x.event sound u in
    let a : FinishAct (act first x.event) x.got host context 0 = finished_act first (act first x.event) x.got host context 0 (sym (kind_act first x (module_there x u)) ∙ k) in
    ap part_of t.nexts_as
    ∙ ap (λ (z : Act). part_of (nexts s z)) a.act_is
    ∙ changes (taken s) (part_of s) a.unserved a.misfit (Finish 0 a.reserved context)
    (good_accepted (taken s) (part_of s) a.unserved a.misfit (Finish 0 a.reserved context) a.n a.answer x.got
    (subst (λ (z : Act). answers s z ≡ x.got) a.act_is (sym t.answers_as ∙ p)) a.good)

-- A module in Verifying has such a history
record Waiting (own : ℕ) (h : History) (s : TransferPart) : Type 0 where
  before : History
  finish : Exchange
  since : History
  host : ℕ
  context : ℕ
  whole : h ≡ before ++ (finish ∷ since)
  finishes : kind_of finish ≡ Finished own host context 0
  of_open : ContextIs (open_at_end none before) own context
  bytes : bytes_of s ≡ bytes_so_far (open_at_end none before)
  count : ticks_in since + s.transfer.ticks ≡ verification
  some : 1 ≤ s.transfer.ticks
  no_own_power : power_cycles own since ≡ 0

Watch : (own : ℕ) → History → TransferPart → Type 0
Watch own h s = s.transfer.phase ≡ Verifying → Waiting own h s

-- one exchange more, which is no power cycle of the module
longer : (own : ℕ) (h : History) (s u : TransferPart) (x : Exchange) → Waiting own h s → power_count own (kind_of x) ≡ 0 → bytes_of u ≡ bytes_of s → tick_count (kind_of x) + u.transfer.ticks ≡ s.transfer.ticks
    → 1 ≤ u.transfer.ticks → Waiting own (h ++ (x ∷ [])) u
longer own h s u x w n b l m =
    record {
      before = w.before;
      finish = w.finish;
      since = w.since ++ (x ∷ []);
      host = w.host;
      context = w.context;
      whole = ap (λ (z : History). z ++ (x ∷ [])) w.whole ∙ append_assoc w.before (w.finish ∷ w.since) (x ∷ []);
      finishes = w.finishes;
      of_open = w.of_open;
      bytes = b ∙ w.bytes;
      count = omega (arith, total_join (λ y. tick_count (kind_of y)) w.since (x ∷ []), w.count);
      some = m;
      no_own_power = omega (arith, total_join (λ y. power_count own (kind_of y)) w.since (x ∷ []), w.no_own_power);
    }

-- the same part, one exchange more, which is no tick either
same_watch : (own : ℕ) (h : History) (s u : TransferPart) (x : Exchange) → (u.transfer.phase ≡ Verifying → u ≡ s) → power_count own (kind_of x) ≡ 0 → tick_count (kind_of x) ≡ 0 → Watch own h s
    → Watch own (h ++ (x ∷ [])) u
unfolding Watch
same_watch own h s u x same n z w p =
    let e = same p in
    let v : Waiting own h s = w (ap (λ (z : TransferPart). z.transfer.phase) (sym e) ∙ p) in
    subst (λ (z : TransferPart). Waiting own (h ++ (x ∷ [])) z) (sym e) (longer own h s s x v n refl (omega (arith, z)) v.some)

watch_tick : (own : ℕ) (h : History) (s : TransferPart) (x : Exchange) → kind_of x ≡ Ticked → Watch own h s → Tick s.transfer s.area → Watch own (h ++ (x ∷ [])) (part_tick s)
unfolding Watch
watch_tick own h s x k w (calm n e) p = never (sym (ap (λ (z : Phase). z is Verifying) p) ∙ ap (λ (t : Transfer). t.phase is Verifying) e ∙ n)
watch_tick own h s x k w (counting q l e) p =
    subst (λ (t : Transfer). Waiting own (h ++ (x ∷ [])) (s with_part t)) (sym e)
    (longer own h s (s with_part (s.transfer with_ticks (s.transfer.ticks - 1))) x (w q) (ap (power_count own) k) refl (omega (arith, ap tick_count k)) (omega arith))
watch_tick own h s x k w (good version q l i e) p = never (sym (ap (λ (z : Phase). z is Verifying) p) ∙ ap (λ (t : Transfer). t.phase is Verifying) e)
watch_tick own h s x k w (bad q l i e) p = never (sym (ap (λ (z : Phase). z is Verifying) p) ∙ ap (λ (t : Transfer). t.phase is Verifying) e)

watch_finish : (own : ℕ) (h : History) (s : TransferPart) (x : Exchange) (host context flag : ℕ) (reserved : List ℕ) → kind_of x ≡ Finished own host context flag → ContextIs (open_at_end none h) own context
    → bytes_of s ≡ bytes_so_far (open_at_end none h) → Watch own (h ++ (x ∷ [])) (part_change s (Finish flag reserved context))
unfolding Watch
watch_finish own h s x host context flag reserved k o b = go (flag =? 0) refl
  where
    go : (c : Bool) → (flag =? 0) ≡ c → ((part_change s (Finish flag reserved context)).transfer.phase ≡ Verifying) → Waiting own (h ++ (x ∷ [])) (part_change s (Finish flag reserved context))
    go true e p =
        let zero_flag : flag ≡ 0 = eqb-true flag 0 e in
        subst (λ (n : ℕ). Waiting own (h ++ (x ∷ [])) (part_change s (Finish n reserved context))) (sym zero_flag)
        (record {
          before = h;
          finish = x;
          since = [];
          host = host;
          context = context;
          whole = refl;
          finishes = k ∙ ap (Finished own host context) zero_flag;
          of_open = o;
          bytes = b;
          count = omega arith;
          some = omega arith;
          no_own_power = refl;
        })
    go false e p = never (sym (ap (λ (z : Phase). z is Verifying) p) ∙ ap (λ (c : Bool). (if c then s.transfer with_phase Verifying with_ticks verification else (s.transfer with_phase Idle with_received 0)).phase is Verifying) e)

-- the module itself is asked something
watch_mine : (first : Bool) (h : History) (x : Exchange) (s : Seen) (d : Doing) → kind_of x ≡ doing_kind (number first) d x.got → InOrder (open_at_end none h) (kind_of x)
    → (s.own.transfer.phase ≡ Receiving → bytes_of (part_of s) ≡ bytes_so_far (open_at_end none h)) → Watch (number first) h (part_of s) → told s d ≡ x.got → Kept x.got
    → Watch (number first) (h ++ (x ∷ [])) (part_of (does s d))
watch_mine first h x s (Transfers host a b GetFwInfo n answer) e t o w p k =
    same_watch (number first) h (part_of s) (part_next (taken s) (part_of s) a b GetFwInfo) x
    (λ q. changes (taken s) (part_of s) a b GetFwInfo (accepted_call (taken s) (part_of s) a b GetFwInfo n answer (ap (λ (z : Answer). remains z.reply.verdict) p ∙ k)))
    (ap (power_count (number first)) e) (ap tick_count e) w
watch_mine first h x s (Transfers host a b Start n answer) e t o w p k = unfold Watch in (λ q.
    let c = changes (taken s) (part_of s) a b Start (accepted_call (taken s) (part_of s) a b Start n answer (ap (λ (z : Answer). remains z.reply.verdict) p ∙ k)) in
    never (sym (ap (λ (z : Phase). z is Verifying) q) ∙ ap (λ (u : TransferPart). u.transfer.phase is Verifying) c))
watch_mine first h x s (Transfers host a b (Send context offset size piece) n answer) e t o w p k = unfold Watch in (λ q.
    let v = accepted_call (taken s) (part_of s) a b (Send context offset size piece) n answer (ap (λ (z : Answer). remains z.reply.verdict) p ∙ k) in
    let c = changes (taken s) (part_of s) a b (Send context offset size piece) v in
    never (sym (ap (λ (z : Phase). z is Verifying) q) ∙ ap (λ (u : TransferPart). u.transfer.phase is Verifying) c
    ∙ ap (λ (z : Phase). z is Verifying) (send_ok (taken s) (part_of s) a b context offset size piece v).at))
watch_mine first h x s (Transfers host a b (Finish flag reserved context) n answer) e t o w p k =
    let v = accepted_call (taken s) (part_of s) a b (Finish flag reserved context) n answer (ap (λ (z : Answer). remains z.reply.verdict) p ∙ k) in
    let kind : kind_of x ≡ Finished (number first) host context flag =
    e ∙ chosen x.got (Finished (number first) host context flag) (accepted_good (taken s) (part_of s) a b (Finish flag reserved context) n answer x.got p v) in
    subst (λ (u : TransferPart). Watch (number first) (h ++ (x ∷ [])) u) (sym (changes (taken s) (part_of s) a b (Finish flag reserved context) v))
    (watch_finish (number first) h (part_of s) x host context flag reserved kind (subst (λ (z : Kind). InOrder (open_at_end none h) z) kind t)
    (o (finish_ok (taken s) (part_of s) a b flag reserved context v).at))
watch_mine first h x s (Transfers host a b (Query context) n answer) e t o w p k =
    same_watch (number first) h (part_of s) (part_next (taken s) (part_of s) a b (Query context)) x
    (λ q. changes (taken s) (part_of s) a b (Query context) (accepted_call (taken s) (part_of s) a b (Query context) n answer (ap (λ (z : Answer). remains z.reply.verdict) p ∙ k)))
    (ap (power_count (number first)) e) (ap tick_count e) w
watch_mine first h x s (Others a b y n answer) e t o w p k = same_watch (number first) h (part_of s) (part_of s) x (λ q. refl) (ap (power_count (number first)) e) (ap tick_count e) w
watch_mine first h x s Powers e t o w p k = unfold Watch in (λ q. never (sym (ap (λ (z : Phase). z is Verifying) q)))
watch_mine first h x s (Reads new) e t o w p k = same_watch (number first) h (part_of s) (part_of s) x (λ q. refl) (ap (power_count (number first)) e) (ap tick_count e) w

watch_act : (first : Bool) (h : History) (x : Exchange) (s : Seen) (f : Act) → Fine s → kind_of x ≡ act_kind first f x.got → InOrder (open_at_end none h) (kind_of x)
    → (s.own.transfer.phase ≡ Receiving → bytes_of (part_of s) ≡ bytes_so_far (open_at_end none h)) → Watch (number first) h (part_of s) → answers s f ≡ x.got → Kept x.got
    → Watch (number first) (h ++ (x ∷ [])) (part_of (nexts s f))
watch_act first h x s (Mine d) fine e t o w p k = watch_mine first h x s d e t o w p k
watch_act first h x s (Theirs d) fine e t o w p k =
    same_watch (number first) h (part_of s) (part_of (nexts s (Theirs d))) x
    (λ q. theirs_part s d fine (ap (λ (z : Transfer). z.phase) (sym (apart s fine.ok d).same) ∙ q))
    (ap (power_count (number first)) e ∙ theirs_power first d x.got) (ap tick_count e ∙ theirs_tick (number (not first)) d x.got) w
watch_act first h x s Ticks fine e t o w p k = watch_tick (number first) h (part_of s) x e w (tick_case s.own.transfer s.area)

watch : (first : Bool) (before : History) (w : Whole) (h : History) → Sound w → Fits (open_at_end none before) w → Watch (number first) before (part_of (seen_from first w)) → Plays machine w h → All Remains h
    → Watch (number first) (before ++ h) (part_of (seen_from first (end machine w h)))
watch first before w [] s o c p k = rw append-nil c
watch first before w (x ∷ h) s o c p k =
    let g = goes x (open_at_end none before) w s o p.0 k.0 in
    let u = unstopped w x s p.0 k.0 in
    let t = sound_through first w x.event s u in
    let c' = watch_act first before x (seen_from first w) (act first x.event) (sound_fine first w s) (kind_act first x (module_there x u)) g.order
    (λ q. let n = opens first (open_at_end none before) (seen_from first w) (sound_fine first w s) (to_side first (open_at_end none before) w o) q in
    n.holding.held ∙ ap bytes_so_far (sym n.open_is)) c (sym t.answers_as ∙ p.0) k.0 in
    subst (λ (z : History). Watch (number first) z (part_of (seen_from first (end machine w (x ∷ h))))) (append_assoc before (x ∷ []) h)
    (watch first (before ++ (x ∷ [])) (machine.next w x.event) h (sound_next w x.event s)
    (subst (λ (z : Open). Fits z (machine.next w x.event)) (sym (leads_join open_next none before (x ∷ []))) g.fits)
    (subst (λ (z : Seen). Watch (number first) (before ++ (x ∷ [])) (part_of z)) (sym t.nexts_as) c') p.1 k.1)

-- The transfer that is waiting, from its Start
due_from : (own : ℕ) (h : History) (s : TransferPart) (version : ℕ) → AllInOrder none h → Waiting own h s → Ripe s version → Due own h version
due_from own h s version t w r = go (open_at_end none w.before) refl w.of_open w.bytes
  where
    go : (o : Open) → open_at_end none w.before ≡ o → ContextIs o own w.context → bytes_of s ≡ bytes_so_far o → Due own h version
    go none e of b = absurd of
    go (by named host c bytes) e of b =
        let p : Opened w.before named host c bytes = opened w.before named host c bytes (throughout_left open_next (λ o x. InOrder o (kind_of x)) none w.before (w.finish ∷ w.since) (subst (λ (z : History). AllInOrder none z) w.whole t)) e in
        record {
          transfer = record {
            before = p.before;
            start = p.start;
            between = p.between;
            finish = w.finish;
            since = w.since;
            named = named;
            starter = host;
            finisher = w.host;
            context = c;
            flag = 0;
            whole = w.whole ∙ ap (λ (z : History). z ++ (w.finish ∷ w.since)) p.whole ∙ append_assoc p.before (p.start ∷ p.between) (w.finish ∷ w.since);
            starts = p.starts;
            finishes = w.finishes ∙ ap (λ (n : ℕ). Finished n w.host w.context 0) of.0 ∙ ap (λ (n : ℕ). Finished named w.host n 0) of.1;
          };
          of_module = sym of.0;
          no_abort = refl;
          good = ap image_of (sym (b ∙ p.sent)) ∙ r.good_image_law;
          seven_ticks = omega (arith, w.count, w.some, r.last);
          no_power_cycle = w.no_own_power;
        }

-- Forth: what is ripe is due
pub ripe_due : (first : Bool) (w : Whole) (h : History) (version : ℕ) → Sound w → Fits none w → ((seen_from first w).own.transfer.phase is Verifying) ≡ false → Plays machine w h → All Remains h
    → Ripe (part_of (seen_from first (end machine w h))) version → Due (number first) h version
unfolding Watch
ripe_due first w h version s o n p k r =
    due_from (number first) h (part_of (seen_from first (end machine w h))) version (orders none w h s o p k)
    (watch first [] w h s o (λ q. never (sym (ap (λ (z : Phase). z is Verifying) q) ∙ n)) p k r.at) r

-- where a staging is due: the last tick is left, and the received bytes are the transfer's own pieces
record Waits (h : History) (named version : ℕ) (d : Due named h version) (s : TransferPart) : Type 0 where
  at : s.transfer.phase ≡ Verifying
  last : s.transfer.ticks ≤ 1
  own : bytes_of s ≡ pieces (own_sends d.transfer.context d.transfer.between)

due_waits : (named : ℕ) (w : Whole) (h : History) (version : ℕ) → Sound w → Fits none w → Plays machine w h → All Remains h → (d : Due named h version)
    → Waits h named version d (part_of (seen_from (d.transfer.named =? 0) (end machine w h)))
due_waits named w h version s o p k d =
    subst (λ (z : Whole). Waits h named version d (part_of (seen_from first z))) (sym (ap (end machine w) whole ∙ end_join machine w pre last))
    (record { at = hold.at; last = omega (arith, hold.count, d.seven_ticks, eight); own = hold.bytes ∙ ap bytes_of e ∙ received w h f s o p k })
  where
    f : FinishedIn h
    f = d.transfer

    first : Bool
    first = f.named =? 0

    pre : History
    pre = f.before ++ (f.start ∷ f.between)

    last : History
    last = f.finish ∷ f.since

    whole : h ≡ pre ++ last
    whole = f.whole ∙ sym (append_assoc f.before (f.start ∷ f.between) last)

    there : All Unstopped h
    there = (inwards true w h s p k).all_unstopped

    last_there : All Unstopped last
    last_there = all_right Unstopped pre last (subst (All Unstopped) whole there)

    module_is : number first ≡ f.named
    module_is = its_module f there

    v : Whole
    v = end machine w pre

    sv : Sound v
    sv = sound_end w pre s

    q : Plays machine v last
    q = plays_right machine w pre last (subst (λ (z : History). Plays machine w z) whole p)

    u : Whole
    u = machine.next v f.finish.event

    e : part_of (seen_from first u) ≡ part_change (part_of (seen_from first v)) (Finish 0 [] f.context)
    e = after_finish first v f.finish f.finisher f.context sv last_there.0
        (f.finishes ∙ ap (λ (n : ℕ). Finished n f.finisher f.context f.flag) (sym module_is) ∙ ap (Finished (number first) f.finisher f.context) d.no_abort) q.0

    eight : (part_of (seen_from first u)).transfer.ticks ≡ verification
    eight = ap (λ (z : TransferPart). z.transfer.ticks) e

    none_since : power_cycles (number first) f.since ≡ 0
    none_since = ap (λ (n : ℕ). power_cycles n f.since) (module_is ∙ d.of_module) ∙ d.no_power_cycle

    hold : Held (part_of (seen_from first u)) (part_of (seen_from first (end machine v last))) (ticks_in f.since)
    hold = held first u f.since (sound_next v f.finish.event sv) last_there.1 (ap (λ (z : TransferPart). z.transfer.phase) e) none_since (omega (arith, d.seven_ticks, eight))

-- Back: what is due is ripe
pub due_ripe : (named : ℕ) (w : Whole) (h : History) (version : ℕ) → Sound w → Fits none w → Plays machine w h → All Remains h → Due named h version
    → Ripe (part_of (seen_from (named =? 0) (end machine w h))) version
due_ripe named w h version s o p k d =
    let c = due_waits named w h version s o p k d in
    subst (λ (n : ℕ). Ripe (part_of (seen_from (n =? 0) (end machine w h))) version) d.of_module
    (record { at = c.at; last = c.last; good_image_law = ap image_of c.own ∙ d.good })

-- a tick leaves the received bytes
tick_bytes : (s : TransferPart) → Tick s.transfer s.area → bytes_of (part_tick s) ≡ bytes_of s
tick_bytes s (calm n e) = ap (λ (t : Transfer). received_bytes t s.area) e
tick_bytes s (counting q l e) = ap (λ (t : Transfer). received_bytes t s.area) e
tick_bytes s (good version q l i e) = ap (λ (t : Transfer). received_bytes t s.area) e
tick_bytes s (bad q l i e) = ap (λ (t : Transfer). received_bytes t s.area) e

-- What is staged is what was sent
pub due_sent : (named : ℕ) (w : Whole) (h : History) (version : ℕ) → Sound w → Fits none w → Plays machine w h → All Remains h → (d : Due named h version)
    → bytes_of (part_of (seen_from (named =? 0) (machine.next (end machine w h) tick))) ≡ pieces (own_sends d.transfer.context d.transfer.between)
due_sent named w h version s o p k d =
    subst (λ (n : ℕ). bytes_of (part_of (seen_from (n =? 0) (machine.next u tick))) ≡ pieces (own_sends d.transfer.context d.transfer.between)) d.of_module
    (ap (λ (z : Seen). bytes_of (part_of z)) (sound_through first u tick (sound_end w h s) refl).nexts_as
    ∙ tick_bytes (part_of (seen_from first u)) (tick_case (seen_from first u).own.transfer u.area)
    ∙ (due_waits named w h version s o p k d).own)
  where
    u : Whole
    u = end machine w h

    first : Bool
    first = d.transfer.named =? 0
