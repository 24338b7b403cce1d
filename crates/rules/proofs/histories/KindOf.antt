-- What the kind of an exchange tells of its act, and what an accepted Start's answer carries.
-- Assumes nothing.
use Prim.Native.Nat.{ℕ, ◌+◌, ◌≤◌}
use mathlib.Core.{Path.{◌≡◌, refl, sym, ◌∙◌, ap}, Bool.{Bool, true, false, not}, List.{List, ◌++◌}}
use native.Mathlib.Omega.{arith}
use Rattle.std.specs.Prelude.{if◌then◌else◌}
use Rattle.rules.specs.{Tests.{◌<?◌}, Module.call_in, Cabinet.{Event, call, tick, power, reading}, Demand1.module_over1, Bytes.{le, number_at}, Table.row_of, Numbers.last_context, Refusals.{refused?, status_bytes, answer_after}}
use Rattle.rules.specs.Transfer.{TransferCall, GetFwInfo, Start, Send, Finish, Query, transfer_answer}
use Rattle.rules.specs.{Transfers.{Answer, Exchange, kind_of, event_kind, Kind, Started, Sent, Finished, Ticked, Powered, Other}, declared.Refusal.TheVariants.{R, Status}}
use Rattle.rules.proofs.page.Split.{number, TransferPart, call_doing, unserved?, misfit?, Doing, Transfers, Others, Powers, Reads, Act, Mine, Theirs, Ticks, answer_by, part_verdict, part_answer, doing_kind, act_kind}
use Rattle.rules.proofs.{page.Facts.{never, replies, start_ok}, page.Through.kind_call}
use Rattle.rules.specs.Refusals.{Verdict}
use Rattle.std.specs.Prelude.{Ok, Err}

-- the answer is no refusal
abbrev pub GoodAnswer : Answer → Type 0
GoodAnswer got = refused? got.reply.verdict ≡ false

-- the two ends of a choice by acceptance
accepted_kind : (b : Bool) (k l : Kind) → (Other ≡ l → ⊥) → (if b then Other else k) ≡ l → (b ≡ false) × (k ≡ l)
accepted_kind true k l n e = absurd (n e)
accepted_kind false k l n e = (refl, e)

accepted_by : (v : Verdict) (n : ℕ) (bytes answer : List ℕ) → GoodAnswer (answer_by v n bytes answer) → v ≡ Ok tt
accepted_by (Ok tt) n bytes answer e = refl
accepted_by (Err (R number)) n bytes answer e = never e
accepted_by (Err (Status status ext)) n bytes answer e = never e

-- where the answer is no refusal the call was accepted, and the other way round
pub good_accepted : (k : Bool) (s : TransferPart) (a b : Bool) (x : TransferCall) (n : ℕ) (answer : List ℕ) (got : Answer) → part_answer k s a b x n answer ≡ got → GoodAnswer got → part_verdict k s a b x ≡ Ok tt
good_accepted k s a b x n answer got p g =
    accepted_by (part_verdict k s a b x) n (status_bytes 0 0 ++ transfer_answer s.transfer s.given x) answer (ap (λ (z : Answer). refused? z.reply.verdict) p ∙ g)

pub accepted_good : (k : Bool) (s : TransferPart) (a b : Bool) (x : TransferCall) (n : ℕ) (answer : List ℕ) (got : Answer) → part_answer k s a b x n answer ≡ got → part_verdict k s a b x ≡ Ok tt → GoodAnswer got
accepted_good k s a b x n answer got p v = ap (λ (z : Answer). refused? z.reply.verdict) (sym p ∙ replies k s a b x n answer v)

-- no Start
abbrev pub NoStart : Kind → Type 0
NoStart (Started named host c) = ⊥
NoStart (Sent named host context offset piece) = Unit {0}
NoStart (Finished named host context flag) = Unit {0}
NoStart Ticked = Unit {0}
NoStart (Powered named) = Unit {0}
NoStart Other = Unit {0}

-- the two modules have two numbers
pub other_number : (first : Bool) → number (not first) ≡ number first → ⊥
other_number true e = omega (arith, e)
other_number false e = omega (arith, e)

-- what a module did that started or finished a transfer is that call
pub record StartDoing (d : Doing) (got : Answer) (named own host context : ℕ) : Type 0 where
  pub unserved : Bool
  pub misfit : Bool
  pub n : ℕ
  pub answer : List ℕ
  pub same_module : own ≡ named
  pub doing_is : d ≡ Transfers host unserved misfit Start n answer
  pub good : GoodAnswer got
  pub carried : number_at 4 4 got.buffer ≡ context

pub started_doing : (d : Doing) (got : Answer) (own named host context : ℕ) → doing_kind own d got ≡ Started named host context → StartDoing d got named own host context
started_doing (Transfers j a b GetFwInfo n answer) got own named host context e = let z : ◌≡◌ {A = ℕ} 0 1 = cc in absurd (omega arith)
started_doing (Transfers j a b Start n answer) got own named host context e =
    let q = accepted_kind (refused? got.reply.verdict) (Started own j (number_at 4 4 got.buffer)) (Started named host context) (λ o. let z : ◌≡◌ {A = ℕ} 0 1 = cc in omega arith) e in
    let same : Started own j (number_at 4 4 got.buffer) ≡ Started named host context = q.1 in
    let hosts : j ≡ host = cc in
    record { unserved = a; misfit = b; n = n; answer = answer; same_module = cc; doing_is = rw hosts; good = q.0; carried = cc }
started_doing (Transfers j a b (Send c offset size piece) n answer) got own named host context e =
    let q = accepted_kind (refused? got.reply.verdict) (Sent own j c offset piece) (Started named host context) (λ o. let z : ◌≡◌ {A = ℕ} 0 1 = cc in omega arith) e in
    let same : Sent own j c offset piece ≡ Started named host context = q.1 in
    let z : ◌≡◌ {A = ℕ} 0 1 = cc in absurd (omega arith)
started_doing (Transfers j a b (Finish flag reserved c) n answer) got own named host context e =
    let q = accepted_kind (refused? got.reply.verdict) (Finished own j c flag) (Started named host context) (λ o. let z : ◌≡◌ {A = ℕ} 0 1 = cc in omega arith) e in
    let same : Finished own j c flag ≡ Started named host context = q.1 in
    let z : ◌≡◌ {A = ℕ} 0 1 = cc in absurd (omega arith)
started_doing (Transfers j a b (Query c) n answer) got own named host context e = let z : ◌≡◌ {A = ℕ} 0 1 = cc in absurd (omega arith)
started_doing (Others a b x n answer) got own named host context e = let z : ◌≡◌ {A = ℕ} 0 1 = cc in absurd (omega arith)
started_doing Powers got own named host context e = let z : ◌≡◌ {A = ℕ} 0 1 = cc in absurd (omega arith)
started_doing (Reads new) got own named host context e = let z : ◌≡◌ {A = ℕ} 0 1 = cc in absurd (omega arith)

pub record FinishDoing (d : Doing) (got : Answer) (named own host context flag : ℕ) : Type 0 where
  pub unserved : Bool
  pub misfit : Bool
  pub reserved : List ℕ
  pub n : ℕ
  pub answer : List ℕ
  pub same_module : own ≡ named
  pub doing_is : d ≡ Transfers host unserved misfit (Finish flag reserved context) n answer
  pub good : GoodAnswer got

pub finished_doing : (d : Doing) (got : Answer) (own named host context flag : ℕ) → doing_kind own d got ≡ Finished named host context flag
    → FinishDoing d got named own host context flag
finished_doing (Transfers j a b GetFwInfo n answer) got own named host context flag e = let z : ◌≡◌ {A = ℕ} 0 1 = cc in absurd (omega arith)
finished_doing (Transfers j a b Start n answer) got own named host context flag e =
    let q = accepted_kind (refused? got.reply.verdict) (Started own j (number_at 4 4 got.buffer)) (Finished named host context flag) (λ o. let z : ◌≡◌ {A = ℕ} 0 1 = cc in omega arith) e in
    let same : Started own j (number_at 4 4 got.buffer) ≡ Finished named host context flag = q.1 in
    let z : ◌≡◌ {A = ℕ} 0 1 = cc in absurd (omega arith)
finished_doing (Transfers j a b (Send c offset size piece) n answer) got own named host context flag e =
    let q = accepted_kind (refused? got.reply.verdict) (Sent own j c offset piece) (Finished named host context flag) (λ o. let z : ◌≡◌ {A = ℕ} 0 1 = cc in omega arith) e in
    let same : Sent own j c offset piece ≡ Finished named host context flag = q.1 in
    let z : ◌≡◌ {A = ℕ} 0 1 = cc in absurd (omega arith)
finished_doing (Transfers j a b (Finish f reserved c) n answer) got own named host context flag e =
    let q = accepted_kind (refused? got.reply.verdict) (Finished own j c f) (Finished named host context flag) (λ o. let z : ◌≡◌ {A = ℕ} 0 1 = cc in omega arith) e in
    let same : Finished own j c f ≡ Finished named host context flag = q.1 in
    let hosts : j ≡ host = cc in
    let contexts : c ≡ context = cc in
    let flags : f ≡ flag = cc in
    record { unserved = a; misfit = b; reserved = reserved; n = n; answer = answer; same_module = cc; doing_is = rw (hosts, contexts, flags); good = q.0 }
finished_doing (Transfers j a b (Query c) n answer) got own named host context flag e = let z : ◌≡◌ {A = ℕ} 0 1 = cc in absurd (omega arith)
finished_doing (Others a b x n answer) got own named host context flag e = let z : ◌≡◌ {A = ℕ} 0 1 = cc in absurd (omega arith)
finished_doing Powers got own named host context flag e = let z : ◌≡◌ {A = ℕ} 0 1 = cc in absurd (omega arith)
finished_doing (Reads new) got own named host context flag e = let z : ◌≡◌ {A = ℕ} 0 1 = cc in absurd (omega arith)

-- and of an act that did so to the module itself: it is its own
pub record StartAct (f : Act) (got : Answer) (host context : ℕ) : Type 0 where
  pub unserved : Bool
  pub misfit : Bool
  pub n : ℕ
  pub answer : List ℕ
  pub act_is : f ≡ Mine (Transfers host unserved misfit Start n answer)
  pub good : GoodAnswer got
  pub carried : number_at 4 4 got.buffer ≡ context

pub started_act : (first : Bool) (f : Act) (got : Answer) (host context : ℕ) → act_kind first f got ≡ Started (number first) host context → StartAct f got host context
started_act first (Mine d) got host context e =
    let q = started_doing d got (number first) (number first) host context e in
    record { unserved = q.unserved; misfit = q.misfit; n = q.n; answer = q.answer; act_is = ap Mine q.doing_is; good = q.good; carried = q.carried }
started_act first (Theirs d) got host context e = absurd (other_number first (started_doing d got (number (not first)) (number first) host context e).same_module)
started_act first Ticks got host context e = let z : ◌≡◌ {A = ℕ} 0 1 = cc in absurd (omega arith)

pub record FinishAct (f : Act) (got : Answer) (host context flag : ℕ) : Type 0 where
  pub unserved : Bool
  pub misfit : Bool
  pub reserved : List ℕ
  pub n : ℕ
  pub answer : List ℕ
  pub act_is : f ≡ Mine (Transfers host unserved misfit (Finish flag reserved context) n answer)
  pub good : GoodAnswer got

pub finished_act : (first : Bool) (f : Act) (got : Answer) (host context flag : ℕ) → act_kind first f got ≡ Finished (number first) host context flag
    → FinishAct f got host context flag
finished_act first (Mine d) got host context flag e =
    let q = finished_doing d got (number first) (number first) host context flag e in
    record { unserved = q.unserved; misfit = q.misfit; reserved = q.reserved; n = q.n; answer = q.answer; act_is = ap Mine q.doing_is; good = q.good }
finished_act first (Theirs d) got host context flag e = absurd (other_number first (finished_doing d got (number (not first)) (number first) host context flag e).same_module)
finished_act first Ticks got host context flag e = let z : ◌≡◌ {A = ℕ} 0 1 = cc in absurd (omega arith)

-- the module of an exchange that started or finished a transfer, or of a power cycle, is the one that its event names
named_by : (named own : ℕ) (d : Doing) (got : Answer) (host context : ℕ) → doing_kind own d got ≡ Started named host context → own ≡ named
named_by named own d got host context e = (started_doing d got own named host context e).same_module

pub started_named : (x : Exchange) (named host context : ℕ) → kind_of x ≡ Started named host context → module_over1 x.event ≡ false → (1 <? named) ≡ false
started_named x named host context k o = go x.event k o
  where
    go : (event : Event) → event_kind event x.got ≡ Started named host context → module_over1 event ≡ false → (1 <? named) ≡ false
    go (call j n revision index request answer) e l =
        let q : n ≡ named = named_by named n (call_doing j revision index request answer) x.got host context (sym (kind_call n j (unserved? revision index) (misfit? index request) (call_in revision index request) (row_of index).answer answer x.got) ∙ e) in
        ap (λ (z : ℕ). 1 <? z) (sym q) ∙ l
    go tick e l = let z : ◌≡◌ {A = ℕ} 0 1 = cc in absurd (omega arith)
    go (power n) e l = let z : ◌≡◌ {A = ℕ} 0 1 = cc in absurd (omega arith)
    go (reading n new) e l = let z : ◌≡◌ {A = ℕ} 0 1 = cc in absurd (omega arith)

pub finished_named : (x : Exchange) (named host context flag : ℕ) → kind_of x ≡ Finished named host context flag → module_over1 x.event ≡ false → (1 <? named) ≡ false
finished_named x named host context flag k o = go x.event k o
  where
    go : (event : Event) → event_kind event x.got ≡ Finished named host context flag → module_over1 event ≡ false → (1 <? named) ≡ false
    go (call j n revision index request answer) e l =
        let q : n ≡ named = (finished_doing (call_doing j revision index request answer) x.got n named host context flag
        (sym (kind_call n j (unserved? revision index) (misfit? index request) (call_in revision index request) (row_of index).answer answer x.got) ∙ e)).same_module in
        ap (λ (z : ℕ). 1 <? z) (sym q) ∙ l
    go tick e l = let z : ◌≡◌ {A = ℕ} 0 1 = cc in absurd (omega arith)
    go (power n) e l = let z : ◌≡◌ {A = ℕ} 0 1 = cc in absurd (omega arith)
    go (reading n new) e l = let z : ◌≡◌ {A = ℕ} 0 1 = cc in absurd (omega arith)

-- and the answer of one that started a transfer is no refusal
pub started_good : (x : Exchange) (named host context : ℕ) → kind_of x ≡ Started named host context → GoodAnswer x.got
started_good x named host context k = go x.event k
  where
    go : (event : Event) → event_kind event x.got ≡ Started named host context → GoodAnswer x.got
    go (call j n revision index request answer) e =
        (started_doing (call_doing j revision index request answer) x.got n named host context
        (sym (kind_call n j (unserved? revision index) (misfit? index request) (call_in revision index request) (row_of index).answer answer x.got) ∙ e)).good
    go tick e = let z : ◌≡◌ {A = ℕ} 0 1 = cc in absurd (omega arith)
    go (power n) e = let z : ◌≡◌ {A = ℕ} 0 1 = cc in absurd (omega arith)
    go (reading n new) e = let z : ◌≡◌ {A = ℕ} 0 1 = cc in absurd (omega arith)

-- an accepted Start's answer carries the number that it gives
carries_back : (n : ℕ) (answer : List ℕ) → n ≤ last_context → number_at 4 4 (answer_after (status_bytes 0 0 ++ le 4 n) answer) ≡ n
carries_back n answer l = omega arith

pub given_number : (k : Bool) (s : TransferPart) (a b : Bool) (n : ℕ) (answer : List ℕ) (got : Answer) → part_answer k s a b Start n answer ≡ got → part_verdict k s a b Start ≡ Ok tt
    → s.given ≤ last_context → number_at 4 4 got.buffer ≡ s.given + 1
given_number k s a b n answer got p v l =
    let o = (start_ok k s a b v).left in
    ap (λ (z : Answer). number_at 4 4 z.buffer) (sym p ∙ replies k s a b Start n answer v) ∙ carries_back (s.given + 1) answer (omega arith)
