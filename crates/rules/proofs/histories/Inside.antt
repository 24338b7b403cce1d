-- The move: between a transfer's Start and its accepted Finish stand its own Sends, and exchanges that may go before its Start. All is seen from the transfer's module.
-- Assumes nothing.
use Prim.Native.Nat.{ℕ, ◌+◌, ◌≤◌}
use mathlib.Core.{Path.{◌≡◌, refl, sym, ◌∙◌, ap, subst}, Logic.{◌⊎◌, inl, inr}, Bool.{Bool, true, false, not, ◌&&◌, ◌||◌}, List.{[], ◌∷◌, ◌++◌}}
use native.Mathlib.Omega.{arith}
use borrow.Author.Tests.{eq-eqb}
use Rattle.rules.specs.{Tests.◌=?◌, Record.{◌is◌, has_area, current}, Transfer.{TransferCall, GetFwInfo, Start, Send, Finish, Query, finish_change}, Cabinet.Event}
use Rattle.rules.specs.{History.{Plays, end, All, Same}, Transfers.{Answer, Exchange, History, Started, Finished, kind_of}}
use Rattle.rules.specs.{Sends.{is_send_of, own_send, own_sends, others}, Demand3.remains, declared.Phase.Phase}
use Rattle.rules.specs.{declared.Phase.TheVariants.{Receiving, Verifying}, declared.Transfer.Transfer}
use Rattle.rules.proofs.{page.Choice.{if_both, or_false}, histories.Joining.{all_left, all_right, plays_left, plays_right, same_cons, same_trans}}
use Rattle.rules.proofs.histories.Swapping.{Either, gather, sink, frees}
use Rattle.rules.proofs.page.Split.{Seen, number, turned, taken, TransferPart, part_of, Doing, Transfers, Others, Powers, Reads, Act, Mine, Theirs, Ticks, act, part_verdict, part_change, part_answer, told, does, answers, nexts, inner, doing_kind, act_kind, part_power, ◌with_part◌}
use Rattle.rules.proofs.{page.Through.kind_act, page.Facts.{never, Kept, accepted_call, changes, StartOk, start_ok, send_ok, finish_ok, FinishOk, query_ok}}
use Rattle.rules.proofs.{page.Keeps.{apart}, page.Possible.{Fine, fine_act}, histories.Gate.{Remains, Unstopped, module_there, keeps_end}}
use Rattle.rules.proofs.histories.KindOf.{good_accepted, accepted_good, StartAct, started_act, FinishAct, finished_act, given_number}
use Rattle.rules.proofs.{histories.Swap.{OwnAct, FreeAct, Own, Free, swaps, still_both, info_next}, page.Invariant.{Invariant, by_tick}}
use Rattle.std.specs.Prelude.{Ok}

-- The transfer with the context c is over in the module: no event brings it back
pub record Gone (c : ℕ) (s : TransferPart) : Type 0 where
  pub old : c ≤ s.given
  pub other : (s.transfer.phase is Receiving) ≡ true → c ≡ current s.transfer → ⊥

-- nothing is received, and so nothing of c
stopped : (c : ℕ) (s : TransferPart) → c ≤ s.given → (s.transfer.phase is Receiving) ≡ false → Gone c s
stopped c s old n = record { old = old; other = λ r e. never (sym r ∙ n) }

-- a Finish ends it, abort or not
gone_finish : (c : ℕ) (s : TransferPart) (flag : ℕ) → c ≤ s.given → Gone c (s with_part finish_change s.transfer flag)
gone_finish c s flag old = if_both (λ (t : Transfer). Gone c (s with_part t)) (flag =? 0) (stopped c _ old refl) (stopped c _ old refl)

gone : (c : ℕ) → Invariant (Gone c)
gone c =
    record {
      change = change;
      ticked = λ s g.
          by_tick (Gone c) s g (λ p l. record { old = g.old; other = g.other }) (λ version p. stopped c _ g.old refl) (λ reason faulty k p. stopped c _ g.old refl);
      powered = λ s g. stopped c (part_power s) g.old refl;
      elsewhere = λ s u a g. record {
        old = omega (arith, g.old, a.more);
        other = λ r e.
            g.other (ap (λ (t : Transfer). t.phase is Receiving) (sym a.same) ∙ r) (e ∙ ap (λ (t : Transfer). current t) a.same);
      };
    }
  where
    change : (k : Bool) (s : TransferPart) (a b : Bool) (x : TransferCall) → part_verdict k s a b x ≡ Ok tt → Gone c s → Gone c (part_change s x)
    change k s a b GetFwInfo v g = g
    change k s a b Start v g = record { old = omega (arith, g.old); other = λ r e. omega (arith, g.old) }
    change k s a b (Send context offset size piece) v g = record { old = g.old; other = g.other }
    change k s a b (Finish flag reserved context) v g = gone_finish c s flag g.old
    change k s a b (Query context) v g = g

-- an exchange that finishes the transfer c of the module at s
pub finish_at : (first : Bool) (s : Seen) (y : Exchange) (j c flag : ℕ) → Unstopped y → kind_of y ≡ Finished (number first) j c flag → (inner first).answer s y.event ≡ y.got
    → FinishOk s.own.transfer flag c
finish_at first s y j c flag u k p =
    let f : FinishAct (act first y.event) y.got j c flag = finished_act first (act first y.event) y.got j c flag (sym (kind_act first y (module_there y u)) ∙ k) in
    let q : answers s (Mine (Transfers j f.unserved f.misfit (Finish flag f.reserved c) f.n f.answer)) ≡ y.got = subst (λ (z : Act). answers s z ≡ y.got) f.act_is p in
    finish_ok (taken s) (part_of s) f.unserved f.misfit flag f.reserved c
    (good_accepted (taken s) (part_of s) f.unserved f.misfit (Finish flag f.reserved c) f.n f.answer y.got q f.good)

-- the transfer c goes on after the act
record On (first : Bool) (c : ℕ) (s : Seen) (f : Act) (got : Answer) : Type 0 where
  which : ((is_send_of c (act_kind first f got) ≡ true) × OwnAct f) ⊎ ((is_send_of c (act_kind first f got) ≡ false) × FreeAct f)
  at : (nexts s f).own.transfer.phase ≡ Receiving
  ctx : current (nexts s f).own.transfer ≡ c

-- the module itself is asked something
go_mine : (first : Bool) (c : ℕ) (s : Seen) (d : Doing) (got : Answer) → s.own.transfer.phase ≡ Receiving → current s.own.transfer ≡ c → c ≤ s.given → told s d ≡ got → Kept got
    → Gone c (part_of (does s d)) ⊎ On first c s (Mine d) got
go_mine first c s (Transfers host a b GetFwInfo n answer) got p g l q k =
    let e = info_next (taken s) (part_of s) a b in
    inr (record { which = inr (refl, tt); at = ap (λ (u : TransferPart). u.transfer.phase) e ∙ p; ctx = ap (λ (u : TransferPart). current u.transfer) e ∙ g })
go_mine first c s (Transfers host a b Start n answer) got p g l q k =
    let v = accepted_call (taken s) (part_of s) a b Start n answer (ap (λ (z : Answer). remains z.reply.verdict) q ∙ k) in
    never (sym (ap (λ (z : Phase). z is Receiving) p) ∙ (start_ok (taken s) (part_of s) a b v).not_receiving)
go_mine first c s (Transfers host a b (Send context offset size piece) n answer) got p g l q k =
    let x : TransferCall = Send context offset size piece in
    let v = accepted_call (taken s) (part_of s) a b x n answer (ap (λ (z : Answer). remains z.reply.verdict) q ∙ k) in
    let e = changes (taken s) (part_of s) a b x v in
    let w = send_ok (taken s) (part_of s) a b context offset size piece v in
    inr (record {
      which = inl (rw (accepted_good (taken s) (part_of s) a b x n answer got q v) (eq-eqb context c (w.own ∙ g)), tt);
      at = ap (λ (u : TransferPart). u.transfer.phase) e ∙ p;
      ctx = ap (λ (u : TransferPart). current u.transfer) e ∙ g;
    })
go_mine first c s (Transfers host a b (Finish flag reserved context) n answer) got p g l q k =
    let x : TransferCall = Finish flag reserved context in
    let v = accepted_call (taken s) (part_of s) a b x n answer (ap (λ (z : Answer). remains z.reply.verdict) q ∙ k) in
    inl (subst (λ (u : TransferPart). Gone c u) (sym (changes (taken s) (part_of s) a b x v)) (gone_finish c (part_of s) flag l))
go_mine first c s (Transfers host a b (Query context) n answer) got p g l q k =
    let v = accepted_call (taken s) (part_of s) a b (Query context) n answer (ap (λ (z : Answer). remains z.reply.verdict) q ∙ k) in
    never (sym (ap (λ (z : Phase). z is Receiving) p) ∙ query_ok (taken s) (part_of s) a b context v)
go_mine first c s (Others a b x n answer) got p g l q k = inr (record { which = inr (refl, tt); at = p; ctx = g })
go_mine first c s Powers got p g l q k = inl (stopped c (part_power (part_of s)) l refl)
go_mine first c s (Reads new) got p g l q k = inr (record { which = inr (refl, tt); at = p; ctx = g })

-- a module that has the area lets no other have it
pub has_area_law : (t : Transfer) → t.phase ≡ Receiving → has_area t ≡ true
has_area_law t p = ap (λ (z : Phase). z is Receiving || z is Verifying) p

pub not_two : (s : Seen) → Fine s → s.own.transfer.phase ≡ Receiving → s.other.transfer.phase ≡ Receiving → ⊥
not_two s w p q = never (sym (ap (λ (b : Bool). b && taken s) (has_area_law s.own.transfer p) ∙ has_area_law s.other.transfer q) ∙ w.ok.one)

-- the other module is asked something: it may go before
beside_own : (first : Bool) (c : ℕ) (s : Seen) (d : Doing) (got : Answer) → Fine s → s.own.transfer.phase ≡ Receiving → told (turned s) d ≡ got → Kept got
    → (is_send_of c (doing_kind (number (not first)) d got) ≡ false) × FreeAct (Theirs d)
beside_own first c s (Transfers host a b GetFwInfo n answer) got w p q k = (refl, tt)
beside_own first c s (Transfers host a b Start n answer) got w p q k =
    let u : Seen = turned s in
    let v = accepted_call (taken u) (part_of u) a b Start n answer (ap (λ (z : Answer). remains z.reply.verdict) q ∙ k) in
    never (sym (has_area_law s.own.transfer p) ∙ (start_ok (taken u) (part_of u) a b v).free)
beside_own first c s (Transfers host a b (Send context offset size piece) n answer) got w p q k =
    let u : Seen = turned s in
    let v = accepted_call (taken u) (part_of u) a b (Send context offset size piece) n answer (ap (λ (z : Answer). remains z.reply.verdict) q ∙ k) in
    absurd (not_two s w p (send_ok (taken u) (part_of u) a b context offset size piece v).at)
beside_own first c s (Transfers host a b (Finish flag reserved context) n answer) got w p q k =
    let u : Seen = turned s in
    let v = accepted_call (taken u) (part_of u) a b (Finish flag reserved context) n answer (ap (λ (z : Answer). remains z.reply.verdict) q ∙ k) in
    absurd (not_two s w p (finish_ok (taken u) (part_of u) a b flag reserved context v).at)
beside_own first c s (Transfers host a b (Query context) n answer) got w p q k = (refl, tt)
beside_own first c s (Others a b x n answer) got w p q k = (refl, tt)
beside_own first c s Powers got w p q k = (refl, tt)
beside_own first c s (Reads new) got w p q k = (refl, tt)

-- so that the other is not verifying while the one receives
quiet_other : (b : Bool) (t : Transfer) → b ≡ true → (b && has_area t) ≡ false → (t.phase is Verifying) ≡ false
quiet_other b t e o = (or_false (t.phase is Receiving) (t.phase is Verifying) (sym (ap (λ (c : Bool). c && has_area t) e) ∙ o)).1

go_on : (first : Bool) (c : ℕ) (s : Seen) (f : Act) (got : Answer) → Fine s → s.own.transfer.phase ≡ Receiving → current s.own.transfer ≡ c → answers s f ≡ got → Kept got
    → Gone c (part_of (nexts s f)) ⊎ On first c s f got
go_on first c s (Mine d) got w p g q k = go_mine first c s d got p g (omega (arith, w.ok.part.known, g)) q k
go_on first c s (Theirs d) got w p g q k =
    let same = (apart s w.ok d).same in
    inr (record {
      which = inr (beside_own first c s d got w p q k);
      at = ap (λ (t : Transfer). t.phase) same ∙ p;
      ctx = ap (λ (t : Transfer). current t) same ∙ g;
    })
go_on first c s Ticks got w p g q k =
    let e = still_both s (ap (λ (z : Phase). z is Verifying) p) (quiet_other (has_area s.own.transfer) s.other.transfer (has_area_law s.own.transfer p) w.ok.one) in
    inr (record { which = inr (refl, tt); at = ap (λ (u : Seen). u.own.transfer.phase) e ∙ p; ctx = ap (λ (u : Seen). current u.own.transfer) e ∙ g })

-- of an exchange
abbrev pub Within : (first : Bool) (context : ℕ) → Exchange → Type 0
Within first c x = Either (Own first) (Free first) (own_send c) x

within : (first : Bool) (c : ℕ) (x : Exchange) → Unstopped x → Kept x.got
    → ((is_send_of c (act_kind first (act first x.event) x.got) ≡ true) × OwnAct (act first x.event))
    ⊎ ((is_send_of c (act_kind first (act first x.event) x.got) ≡ false) × FreeAct (act first x.event)) → Within first c x
unfolding Free
within first c x u k (inl q) = inl (ap (is_send_of c) (kind_act first x (module_there x u)) ∙ q.0, record { which = q.1; kept = k })
within first c x u k (inr q) = inr (ap (is_send_of c) (kind_act first x (module_there x u)) ∙ q.0, q.1)

inside_step : (first : Bool) (c j flag : ℕ) (s : Seen) (x y : Exchange) (mid : History) → Fine s → Unstopped x → Unstopped y → kind_of y ≡ Finished (number first) j c flag
    → (inner first).answer (end (inner first) s (x ∷ mid)) y.event ≡ y.got → Kept x.got
    → Gone c (part_of ((inner first).next s x.event)) ⊎ On first c s (act first x.event) x.got
    → (On first c s (act first x.event) x.got → All (Within first c) mid) → All (Within first c) (x ∷ mid)
inside_step first c j flag s x y mid w ux uy fin p k (inl g) i =
    let o = finish_at first (end (inner first) s (x ∷ mid)) y j c flag uy fin p in
    absurd ((keeps_end {P = Gone c} (gone c) first ((inner first).next s x.event) mid (fine_act s (act first x.event) w) g).other (ap (λ (z : Phase). z is Receiving) o.at) o.own)
inside_step first c j flag s x y mid w ux uy fin p k (inr o) i = (within first c x ux k o.which, i o)

pub inside : (first : Bool) (c j flag : ℕ) (s : Seen) (mid : History) (y : Exchange) → Fine s → s.own.transfer.phase ≡ Receiving → current s.own.transfer ≡ c
    → Plays (inner first) s mid → All Remains mid → All Unstopped mid → Unstopped y → kind_of y ≡ Finished (number first) j c flag
    → (inner first).answer (end (inner first) s mid) y.event ≡ y.got → All (Within first c) mid
inside first c j flag s [] y w p g q k u uy fin e = tt
inside first c j flag s (x ∷ mid) y w p g q k u uy fin e =
    inside_step first c j flag s x y mid w u.0 uy fin e k.0 (go_on first c s (act first x.event) x.got w p g q.0 k.0)
    (λ (o : On first c s (act first x.event) x.got).
    inside first c j flag ((inner first).next s x.event) mid y (fine_act s (act first x.event) w) o.at o.ctx q.1 k.1 u.1 uy fin e)

-- what an accepted Start of the module leads to
pub record Begun (first : Bool) (s : Seen) (x : Exchange) (host context : ℕ) : Type 0 where
  pub own : OwnAct (act first x.event)
  pub phase : ((inner first).next s x.event).own.transfer.phase ≡ Receiving
  pub ctx : current ((inner first).next s x.event).own.transfer ≡ context
  pub next_number : context ≡ s.given + 1
  pub part_is : part_of ((inner first).next s x.event) ≡ part_change (part_of s) Start
  pub allowed : StartOk s.own.transfer s.given (taken s)

pub begun : (first : Bool) (s : Seen) (x : Exchange) (host context : ℕ) → Fine s → Unstopped x → kind_of x ≡ Started (number first) host context → (inner first).answer s x.event ≡ x.got
    → Begun first s x host context
begun first s x host context w u k p = go
  where
    f : StartAct (act first x.event) x.got host context
    f = started_act first (act first x.event) x.got host context (sym (kind_act first x (module_there x u)) ∙ k)

    q : part_answer (taken s) (part_of s) f.unserved f.misfit Start f.n f.answer ≡ x.got
    q = subst (λ (z : Act). answers s z ≡ x.got) f.act_is p

    v : part_verdict (taken s) (part_of s) f.unserved f.misfit Start ≡ Ok tt
    v = good_accepted (taken s) (part_of s) f.unserved f.misfit Start f.n f.answer x.got q f.good

    e : part_of ((inner first).next s x.event) ≡ part_change (part_of s) Start
    e = ap (λ (z : Act). part_of (nexts s z)) f.act_is ∙ changes (taken s) (part_of s) f.unserved f.misfit Start v

    number_is : context ≡ s.given + 1
    number_is = sym f.carried ∙ given_number (taken s) (part_of s) f.unserved f.misfit f.n f.answer x.got q v w.fit

    go : Begun first s x host context
    go = record {
      own = subst (λ (z : Act). OwnAct z) (sym f.act_is) tt;
      phase = ap (λ (z : TransferPart). z.transfer.phase) e;
      ctx = ap (λ (z : TransferPart). current z.transfer) e ∙ sym number_is;
      next_number = number_is;
      part_is = e;
      allowed = start_ok (taken s) (part_of s) f.unserved f.misfit v;
    }

-- from the state before the Start
pub move_here : (first : Bool) (s : Seen) (x y : Exchange) (mid post : History) (host j c flag : ℕ) → Fine s → kind_of x ≡ Started (number first) host c → kind_of y ≡ Finished (number first) j c flag
    → All Remains (x ∷ (mid ++ (y ∷ post))) → All Unstopped (x ∷ (mid ++ (y ∷ post))) → Plays (inner first) s (x ∷ (mid ++ (y ∷ post)))
    → Same (inner first) s (x ∷ (mid ++ (y ∷ post))) (others c mid ++ (x ∷ (own_sends c mid ++ (y ∷ post))))
move_here first s x y mid post host j c flag w st fin k u p =
    same_trans (inner first) (same_cons (inner first) x p.0 g)
    (sink (inner first) Fine sounds (Own first) (Free first) (swaps first) s x (others c mid) (own_sends c mid ++ last) w (record { which = b.own; kept = k.0 })
    (frees (inner first) Fine sounds (Own first) (Free first) (swaps first) (own_send c) mid ins) (p.0, g.plays))
  where
    last : History
    last = y ∷ post

    sounds : (z : Seen) (event : Event) → Fine z → Fine ((inner first).next z event)
    sounds z event q = fine_act z (act first event) q

    b : Begun first s x host c
    b = begun first s x host c w u.0 st p.0

    z : Seen
    z = (inner first).next s x.event

    ins : All (Within first c) mid
    ins = inside first c j flag z mid y (sounds s x.event w) b.phase b.ctx (plays_left (inner first) z mid last p.1) (all_left Remains mid last k.1)
        (all_left Unstopped mid last u.1) (all_right Unstopped mid last u.1).0 fin (plays_right (inner first) z mid last p.1).0

    g : Same (inner first) z (mid ++ last) (others c mid ++ (own_sends c mid ++ last))
    g = gather (inner first) Fine sounds (Own first) (Free first) (swaps first) (own_send c) z mid last (sounds s x.event w) ins p.1
