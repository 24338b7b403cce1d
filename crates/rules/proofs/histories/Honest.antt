-- Honest hosts: a Send or a Finish that is served carries a context in its request, which was answered to its host; and what remains is honest too.
-- Assumes nothing.
use Prim.Native.Nat.{ℕ, ◌≤◌}
use mathlib.Core.{Path.{◌≡◌, refl, sym, ◌∙◌}, Logic.{inl, inr}, Bool.{Bool, true, false, ◌&&◌}, List.{[], List, ◌∷◌}}
use native.Mathlib.Omega.{arith}
use lib.ListN.{length}
use borrow.Author.Tests.{leb-true, eqb-true, not-false}
use Rattle.rules.specs.{Tests.{◌=?◌, ◌≤?◌}, Refusals.refused?, Table.{table, look_up, row_of, fits?, has_length?, has_length?}, Transfer.{GetFwInfo, Start, Send, Finish, Query}}
use Rattle.rules.specs.{Module.call_of, Cabinet.call, History.{All, keep}, Transfers.{Exchange, History}}
use Rattle.rules.specs.{Hosts.{Carries, Uses, AnsweredTo, HonestAfter, Honest}, Demand3.{remains, struck}}
use Rattle.rules.specs.{declared.Row.Row, declared.Function.Function, declared.RequestLength.RequestLength, declared.RequestLength.TheVariants.{Exactly, AtLeast}}
use Rattle.rules.proofs.{page.Choice.{and_true, if_both}, page.Split.{Doing, Transfers, Others, Powers, Reads, doing_of, call_doing, unserved?, misfit?}}
use Rattle.rules.proofs.{page.Facts.never, histories.KindOf.started_good, histories.Gate.Remains}
use Rattle.rules.specs.declared.Function.TheVariants as Function'
use Rattle.rules.specs.Refusals.{Verdict}
use Rattle.std.specs.Prelude.{Ok, Err}

-- how long a request must be to carry a context
abbrev needs : Function → ℕ
needs Function'.Mask = 0
needs Function'.GetHealth = 0
needs Function'.GetThreshold = 0
needs Function'.GetFwInfo = 0
needs Function'.Start = 0
needs Function'.Send = 4
needs Function'.Finish = 8
needs Function'.Query = 4
needs Function'.SetThreshold = 0
needs Function'.GetSecurityState = 0
needs Function'.SetPassphrase = 0
needs Function'.Disable = 0
needs Function'.Unlock = 0
needs Function'.Freeze = 0
needs Function'.Unserved = 0

-- the bytes that a request of this length has at least
abbrev least : RequestLength → ℕ
least (Exactly bytes) = bytes
least (AtLeast bytes) = bytes

-- every row of the table asks for as much
abbrev enough : Row → Bool
enough r = needs r.function ≤? least r.request

abbrev all_enough : List (ℕ × Row) → Bool
all_enough [] = true
all_enough (place ∷ places) = enough place.1 && all_enough places

look_enough : (index : ℕ) (places : List (ℕ × Row)) → all_enough places ≡ true → enough (look_up index places) ≡ true
look_enough index [] e = refl
look_enough index (place ∷ places) e =
    let q = and_true (enough place.1) (all_enough places) e in
    if_both (λ (r : Row). enough r ≡ true) (index =? place.0) q.0 (look_enough index places q.1)

row_enough : (index : ℕ) → enough (row_of index) ≡ true
unfolding row_of
row_enough index = look_enough index table refl

long : (r : Row) (request : List ℕ) → fits? r request ≡ true → least r.request ≤ length request
unfolding fits?
long r request e = go r.request e
  where
    go : (asked : RequestLength) → has_length? asked request ≡ true → least asked ≤ length request
    go (AtLeast bytes) f = leb-true bytes (length request) f
    go (Exactly bytes) f = let q = eqb-true (length request) bytes f in omega arith

-- a served Send's or Finish's context was answered to its host
abbrev pub UsesDoing : History → Doing → Type 0
UsesDoing past (Transfers host a b GetFwInfo n answer) = Unit {0}
UsesDoing past (Transfers host a b Start n answer) = Unit {0}
UsesDoing past (Transfers host a b (Send context offset size piece) n answer) = b ≡ false → AnsweredTo host context past
UsesDoing past (Transfers host a b (Finish flag reserved context) n answer) = b ≡ false → AnsweredTo host context past
UsesDoing past (Transfers host a b (Query context) n answer) = Unit {0}
UsesDoing past (Others a b x n answer) = Unit {0}
UsesDoing past Powers = Unit {0}
UsesDoing past (Reads new) = Unit {0}

uses_call : (past : History) (f : Function) (host revision n : ℕ) (a b : Bool) (request answer : List ℕ) → (b ≡ false → needs f ≤ length request)
    → ((context : ℕ) → Carries (call_of f revision request) request context → AnsweredTo host context past) → UsesDoing past (doing_of host a b (call_of f revision request) n answer)
uses_call past Function'.Mask host revision n a b request answer l u = tt
uses_call past Function'.GetHealth host revision n a b request answer l u = tt
uses_call past Function'.GetThreshold host revision n a b request answer l u = tt
uses_call past Function'.GetFwInfo host revision n a b request answer l u = tt
uses_call past Function'.Start host revision n a b request answer l u = tt
uses_call past Function'.Send host revision n a b request answer l u = λ e. u _ (l e, refl)
uses_call past Function'.Finish host revision n a b request answer l u = λ e. u _ (l e, refl)
uses_call past Function'.Query host revision n a b request answer l u = tt
uses_call past Function'.SetThreshold host revision n a b request answer l u = tt
uses_call past Function'.GetSecurityState host revision n a b request answer l u = tt
uses_call past Function'.SetPassphrase host revision n a b request answer l u = tt
uses_call past Function'.Disable host revision n a b request answer l u = tt
uses_call past Function'.Unlock host revision n a b request answer l u = tt
uses_call past Function'.Freeze host revision n a b request answer l u = tt
uses_call past Function'.Unserved host revision n a b request answer l u = tt

pub uses_doing : (past : History) (host named revision index : ℕ) (request answer : List ℕ)
    → ((j context : ℕ) → Uses (call host named revision index request answer) j context → AnsweredTo j context past) → UsesDoing past (call_doing host revision index request answer)
uses_doing past host named revision index request answer u =
    uses_call past (row_of index).function host revision (row_of index).answer (unserved? revision index) (misfit? index request) request answer
    (λ e. let l = long (row_of index) request (not-false _ e) in let k = leb-true (needs (row_of index).function) (least (row_of index).request) (row_enough index) in omega arith)
    (λ context k. u host context (refl, k))

-- what remains: it all remains, and it is honest
remains_step : (b : Bool) (x : Exchange) (h : History) → remains x.got.reply.verdict ≡ b → All Remains h → All Remains (keep b x h)
remains_step true x h e a = (e, a)
remains_step false x h e a = a

pub all_remains : (h : History) → All Remains (struck h)
all_remains [] = tt
all_remains (x ∷ h) = remains_step (remains x.got.reply.verdict) x (struck h) refl (all_remains h)

-- every Start that stands in the one past stands in the other
abbrev Holds : History → History → Type 0
Holds past past' = (host context : ℕ) → AnsweredTo host context past → AnsweredTo host context past'

both_more : (past past' : History) (x : Exchange) → Holds past past' → Holds (x ∷ past) (x ∷ past')
both_more past past' x w host context (inl e) = inl e
both_more past past' x w host context (inr m) = inr (w host context m)

good_remains : (v : Verdict) → refused? v ≡ false → remains v ≡ true
good_remains (Ok tt) e = refl
good_remains (Err refusal) e = never e

left_more : (past past' : History) (x : Exchange) → remains x.got.reply.verdict ≡ false → Holds past past' → Holds (x ∷ past) past'
left_more past past' x n w host context (inl e) =
    never (sym (good_remains x.got.reply.verdict (started_good x e.0 host context e.1)) ∙ n)
left_more past past' x n w host context (inr m) = w host context m

honest_step : (b : Bool) (past past' : History) (x : Exchange) (h : History) → remains x.got.reply.verdict ≡ b → Holds past past'
    → ((host context : ℕ) → Uses x.event host context → AnsweredTo host context past)
    → ((later : History) → Holds (x ∷ past) later → HonestAfter later h) → HonestAfter past' (keep b x h)
honest_step true past past' x h e w u i = (λ host context q. w host context (u host context q), i (x ∷ past') (both_more past past' x w))
honest_step false past past' x h e w u i = i past' (left_more past past' x e w)

honest_after_law : (past past' h : History) → Holds past past' → HonestAfter past h → HonestAfter past' (struck h)
honest_after_law past past' [] w u = tt
honest_after_law past past' (x ∷ h) w u =
    honest_step (remains x.got.reply.verdict) past past' x (struck h) refl w u.0 (λ (later : History) (v : Holds (x ∷ past) later). honest_after_law (x ∷ past) later h v u.1)

pub honest_struck : (h : History) → Honest h → Honest (struck h)
honest_struck h u = honest_after_law [] [] h (λ host context m. m) u
