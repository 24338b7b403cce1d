-- An accepted Start or Send and the exchange after it may change places, where that is a Get FW Info, a call on the rest or a reading of its own module, a tick, or anything of
-- the other module that leaves the area and the numbers.
-- Assumes nothing.
use Prim.Native.Nat.{ℕ}
use mathlib.Core.{Path.{◌≡◌, refl, sym, ◌∙◌, ap, subst}, Bool.{Bool, false, ◌&&◌, ◌||◌}, List.List}
use Rattle.rules.specs.{Record.{◌is◌, has_area}, With.◌with_transfer◌, Transfer.{TransferCall, GetFwInfo, Start, Send, Finish, Query}, Module.device_ticked, Transfers.{Answer, Exchange}}
use Rattle.rules.specs.{Demand3.remains, declared.Phase.Phase}
use Rattle.rules.specs.{declared.Phase.TheVariants.{Receiving, Verifying}, declared.Transfer.Transfer, declared.Device.Device}
use Rattle.rules.proofs.page.Split.{Seen, turned, taken, TransferPart, ◌with_part◌, part_of, ◌with_its_part◌, Doing, Transfers, Others, Powers, Reads, Act, Mine, Theirs, Ticks, act, part_verdict, part_after, part_answer, part_next, part_tick, does, answers, nexts, inner}
use Rattle.rules.proofs.{page.Facts.{never, Kept, accepted_call, changes, start_ok, send_ok, Tick, calm, counting, good, bad, tick_case}, page.Choice.or_false, page.Possible.Fine, histories.Swapping.Swaps}
use Rattle.rules.specs.Refusals.{Verdict}
use Rattle.std.specs.Prelude.{Ok, Err}

-- a Start or a Send
abbrev pub OwnCall : TransferCall → Type 0
OwnCall GetFwInfo = ⊥
OwnCall Start = Unit {0}
OwnCall (Send context offset size piece) = Unit {0}
OwnCall (Finish flag reserved context) = ⊥
OwnCall (Query context) = ⊥

abbrev pub OwnDoing : Doing → Type 0
OwnDoing (Transfers host a b x n answer) = OwnCall x
OwnDoing (Others a b x n answer) = ⊥
OwnDoing Powers = ⊥
OwnDoing (Reads new) = ⊥

abbrev pub OwnAct : Act → Type 0
OwnAct (Mine d) = OwnDoing d
OwnAct (Theirs d) = ⊥
OwnAct Ticks = ⊥

-- of its own module: a Get FW Info, a call on the rest, a reading
abbrev pub FreeCall : TransferCall → Type 0
FreeCall GetFwInfo = Unit {0}
FreeCall Start = ⊥
FreeCall (Send context offset size piece) = ⊥
FreeCall (Finish flag reserved context) = ⊥
FreeCall (Query context) = ⊥

abbrev pub FreeDoing : Doing → Type 0
FreeDoing (Transfers host a b x n answer) = FreeCall x
FreeDoing (Others a b x n answer) = Unit {0}
FreeDoing Powers = ⊥
FreeDoing (Reads new) = Unit {0}

-- of the other: a Query and a power cycle too
abbrev pub BesideCall : TransferCall → Type 0
BesideCall GetFwInfo = Unit {0}
BesideCall Start = ⊥
BesideCall (Send context offset size piece) = ⊥
BesideCall (Finish flag reserved context) = ⊥
BesideCall (Query context) = Unit {0}

abbrev pub BesideDoing : Doing → Type 0
BesideDoing (Transfers host a b x n answer) = BesideCall x
BesideDoing (Others a b x n answer) = Unit {0}
BesideDoing Powers = Unit {0}
BesideDoing (Reads new) = Unit {0}

abbrev pub FreeAct : Act → Type 0
FreeAct (Mine d) = FreeDoing d
FreeAct (Theirs d) = BesideDoing d
FreeAct Ticks = Unit {0}

-- what a Start or a Send that was accepted tells: the other module has not the area, so that it may as well be judged where the area is free
pub record OwnOk (k : Bool) (p : TransferPart) (a b : Bool) (x : TransferCall) : Type 0 where
  pub now : (part_next k p a b x).transfer.phase ≡ Receiving
  pub running : (part_next k p a b x).transfer.running ≡ p.transfer.running
  pub staged : (part_next k p a b x).transfer.staged ≡ p.transfer.staged
  pub before : (p.transfer.phase is Verifying) ≡ false
  pub free : k ≡ false

own_ok : (k : Bool) (p : TransferPart) (a b : Bool) (x : TransferCall) → OwnCall x → (has_area p.transfer && k) ≡ false → part_verdict k p a b x ≡ Ok tt → OwnOk k p a b x
own_ok k p a b GetFwInfo o i v = absurd o
own_ok k p a b Start o i v =
    let e = changes k p a b Start v in
    record {
      now = ap (λ (u : TransferPart). u.transfer.phase) e;
      running = ap (λ (u : TransferPart). u.transfer.running) e;
      staged = ap (λ (u : TransferPart). u.transfer.staged) e;
      before = (start_ok k p a b v).not_verifying;
      free = (start_ok k p a b v).free;
    }
own_ok k p a b (Send context offset size piece) o i v =
    let e = changes k p a b (Send context offset size piece) v in
    let at : p.transfer.phase ≡ Receiving = (send_ok k p a b context offset size piece v).at in
    record {
      now = ap (λ (u : TransferPart). u.transfer.phase) e ∙ at;
      running = ap (λ (u : TransferPart). u.transfer.running) e;
      staged = ap (λ (u : TransferPart). u.transfer.staged) e;
      before = ap (λ (q : Phase). q is Verifying) at;
      free = sym (ap (λ (q : Phase). (q is Receiving || q is Verifying) && k) at) ∙ i;
    }
own_ok k p a b (Finish flag reserved context) o i v = absurd o
own_ok k p a b (Query context) o i v = absurd o

-- a tick leaves what is not verifying
still_case : (p : TransferPart) → (p.transfer.phase is Verifying) ≡ false → Tick p.transfer p.area → part_tick p ≡ p
still_case p h (calm n e) = ap (λ (t : Transfer). p with_part t) e
still_case p h (counting q l e) = never (sym (ap (λ (z : Phase). z is Verifying) q) ∙ h)
still_case p h (good version q l i e) = never (sym (ap (λ (z : Phase). z is Verifying) q) ∙ h)
still_case p h (bad q l i e) = never (sym (ap (λ (z : Phase). z is Verifying) q) ∙ h)

pub still : (p : TransferPart) → (p.transfer.phase is Verifying) ≡ false → part_tick p ≡ p
still p h = still_case p h (tick_case p.transfer p.area)

-- so a tick leaves a cabinet of which neither module is
pub still_device : (d : Device) (area : List ℕ) → (d.transfer.phase is Verifying) ≡ false → device_ticked area d ≡ d
still_device d area h = ap (λ (p : TransferPart). d with_transfer p.transfer) (still (record { transfer = d.transfer; given = 0; area = area }) h)

pub still_both : (s : Seen) → (s.own.transfer.phase is Verifying) ≡ false → (s.other.transfer.phase is Verifying) ≡ false → nexts s Ticks ≡ s
still_both s h k =
    ap (λ (d : Device). record { own = d; other = device_ticked s.area s.other; given = s.given; area = s.area }) (still_device s.own s.area h)
    ∙ ap (λ (d : Device). record { own = s.own; other = d; given = s.given; area = s.area }) (still_device s.other s.area k)

-- Get FW Info and Query change nothing, accepted or not
pub info_next : (k : Bool) (p : TransferPart) (a b : Bool) → part_next k p a b GetFwInfo ≡ p
info_next k p a b = go (part_verdict k p a b GetFwInfo)
  where
    go : (v : Verdict) → part_after v p GetFwInfo ≡ p
    go (Ok tt) = refl
    go (Err refusal) = refl

pub query_next : (k : Bool) (p : TransferPart) (a b : Bool) (context : ℕ) → part_next k p a b (Query context) ≡ p
query_next k p a b context = go (part_verdict k p a b (Query context))
  where
    go : (v : Verdict) → part_after v p (Query context) ≡ p
    go (Ok tt) = refl
    go (Err refusal) = refl

-- Get FW Info shows the two versions only
info_same : (k : Bool) (p u : TransferPart) (a b : Bool) (n : ℕ) (answer : List ℕ) → u.transfer.running ≡ p.transfer.running → u.transfer.staged ≡ p.transfer.staged
    → part_answer k p a b GetFwInfo n answer ≡ part_answer k u a b GetFwInfo n answer
info_same k p u a b n answer r g = rw (r, g)

-- The three things that a change of places is.
pub record Swapped (s : Seen) (g f : Act) (e₁ e₂ : Answer) : Type 0 where
  pub earlier : answers s f ≡ e₂
  pub later : answers (nexts s f) g ≡ e₁
  pub meet : nexts (nexts s g) f ≡ nexts (nexts s f) g

-- where the second act leaves the cabinet as it is, before and after the first
leaving : (s : Seen) (g f : Act) (e₁ e₂ : Answer) → nexts s f ≡ s → nexts (nexts s g) f ≡ nexts s g → answers s f ≡ e₂ → answers s g ≡ e₁ → Swapped s g f e₁ e₂
leaving s g f e₁ e₂ before after q p =
    record { earlier = q; later = subst (λ (u : Seen). answers u g ≡ e₁) (sym before) p; meet = after ∙ ap (λ (u : Seen). nexts u g) (sym before) }

-- by the second act, given what the first tells
module _ (s : Seen) (host : ℕ) (a b : Bool) (x : TransferCall) (n : ℕ) (answer : List ℕ) (e₁ e₂ : Answer) (w : OwnOk (taken s) (part_of s) a b x)
    (p : part_answer (taken s) (part_of s) a b x n answer ≡ e₁) where
  own : Act
  own = Mine (Transfers host a b x n answer)

  mine : (f : Doing) → FreeDoing f → answers (nexts s own) (Mine f) ≡ e₂ → Swapped s own (Mine f) e₁ e₂
  unfolding own
  mine (Transfers j c d GetFwInfo k buffer) f q =
      let first = part_next (taken s) (part_of s) a b x in
      leaving s own (Mine (Transfers j c d GetFwInfo k buffer)) e₁ e₂
      (ap (λ (u : TransferPart). s with_its_part u) (info_next (taken s) (part_of s) c d))
      (ap (λ (u : TransferPart). s with_its_part u) (info_next (taken s) first c d))
      (info_same (taken s) (part_of s) first c d k buffer w.running w.staged ∙ q) p
  mine (Transfers j c d Start k buffer) f q = absurd f
  mine (Transfers j c d (Send context offset size piece) k buffer) f q = absurd f
  mine (Transfers j c d (Finish flag reserved context) k buffer) f q = absurd f
  mine (Transfers j c d (Query context) k buffer) f q = absurd f
  mine (Others c d y k buffer) f q = record { earlier = q; later = p; meet = refl }
  mine Powers f q = absurd f
  mine (Reads new) f q = record { earlier = q; later = p; meet = refl }

  theirs : (f : Doing) → BesideDoing f → answers (nexts s own) (Theirs f) ≡ e₂ → Swapped s own (Theirs f) e₁ e₂
  unfolding own
  theirs (Transfers j c d GetFwInfo k buffer) f q =
      let first : Seen = nexts s own in
      leaving s own (Theirs (Transfers j c d GetFwInfo k buffer)) e₁ e₂
      (ap (λ (u : TransferPart). turned (turned s with_its_part u)) (info_next (taken (turned s)) (part_of (turned s)) c d))
      (ap (λ (u : TransferPart). turned (turned first with_its_part u)) (info_next (taken (turned first)) (part_of (turned first)) c d)) q p
  theirs (Transfers j c d Start k buffer) f q = absurd f
  theirs (Transfers j c d (Send context offset size piece) k buffer) f q = absurd f
  theirs (Transfers j c d (Finish flag reserved context) k buffer) f q = absurd f
  theirs (Transfers j c d (Query context) k buffer) f q =
      let first : Seen = nexts s own in
      leaving s own (Theirs (Transfers j c d (Query context) k buffer)) e₁ e₂
      (ap (λ (u : TransferPart). turned (turned s with_its_part u)) (query_next (taken (turned s)) (part_of (turned s)) c d context))
      (ap (λ (u : TransferPart). turned (turned first with_its_part u)) (query_next (taken (turned first)) (part_of (turned first)) c d context)) q p
  theirs (Others c d y k buffer) f q = record { earlier = q; later = p; meet = refl }
  theirs Powers f q =
      record {
        earlier = q;
        later = ap (λ (k : Bool). part_answer k (part_of s) a b x n answer) (sym w.free) ∙ p;
        meet = ap (λ (k : Bool). turned (does (turned (s with_its_part part_next k (part_of s) a b x)) Powers)) w.free;
      }
  theirs (Reads new) f q = record { earlier = q; later = p; meet = refl }

  ticks : answers (nexts s own) Ticks ≡ e₂ → Swapped s own Ticks e₁ e₂
  unfolding own
  ticks q =
      let calm_other : (s.other.transfer.phase is Verifying) ≡ false = (or_false (s.other.transfer.phase is Receiving) (s.other.transfer.phase is Verifying) w.free).1 in
      leaving s own Ticks e₁ e₂ (still_both s w.before calm_other) (still_both (nexts s own) (ap (λ (z : Phase). z is Verifying) w.now) calm_other) q p

  swap : (f : Act) → FreeAct f → answers (nexts s own) f ≡ e₂ → Swapped s own f e₁ e₂
  swap (Mine d) f q = mine d f q
  swap (Theirs d) f q = theirs d f q
  swap Ticks f q = ticks q

-- of exchanges, seen from a module
pub record Own (first : Bool) (x : Exchange) : Type 0 where
  pub which : OwnAct (act first x.event)
  pub kept : Kept x.got

unfoldable pub Free : (first : Bool) → Exchange → Type 0
Free first y = FreeAct (act first y.event)

swap_own : (s : Seen) (g f : Act) (e₁ e₂ : Answer) → (has_area s.own.transfer && taken s) ≡ false → OwnAct g → Kept e₁ → FreeAct f → answers s g ≡ e₁ → answers (nexts s g) f ≡ e₂
    → Swapped s g f e₁ e₂
unfolding own
swap_own s (Mine (Transfers host a b x n answer)) f e₁ e₂ i o k r p q =
    swap s host a b x n answer e₁ e₂
    (own_ok (taken s) (part_of s) a b x o i (accepted_call (taken s) (part_of s) a b x n answer (ap (λ (got : Answer). remains got.reply.verdict) p ∙ k))) p f r q
swap_own s (Mine (Others a b x n answer)) f e₁ e₂ i o k r p q = absurd o
swap_own s (Mine Powers) f e₁ e₂ i o k r p q = absurd o
swap_own s (Mine (Reads new)) f e₁ e₂ i o k r p q = absurd o
swap_own s (Theirs d) f e₁ e₂ i o k r p q = absurd o
swap_own s Ticks f e₁ e₂ i o k r p q = absurd o

pub swaps : (first : Bool) (s : Seen) (x y : Exchange) → Fine s → Own first x → Free first y → (inner first).answer s x.event ≡ x.got
    → (inner first).answer ((inner first).next s x.event) y.event ≡ y.got → Swaps (inner first) s x y
unfolding Free
swaps first s x y w o f p q =
    let z = swap_own s (act first x.event) (act first y.event) x.got y.got w.ok.one o.which o.kept f p q in
    record { earlier = z.earlier; later = z.later; meet = z.meet }
