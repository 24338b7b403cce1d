-- What stages an image in a module: only a tick, the eighth after a good image's Finish; and Staged stays until a power cycle of that module. All is seen from the module.
-- Assumes nothing.
use Prim.Native.Nat.{ℕ, zero, suc, ◌≤◌}
use mathlib.Core.{Path.{◌≡◌, refl, sym, ◌∙◌, ap}, Logic.{◌⊎◌, inl, inr}, Bool.{Bool, true, false, ◌||◌, ◌&&◌}, List.{◌∷◌}}
use native.Mathlib.Omega.{arith}
use borrow.Author.Tests.{eqb-true, eq-eqb}
use Rattle.std.specs.Prelude.{if◌then◌else◌}
use Rattle.rules.specs.{Tests.{◌=?◌}, Record.{◌is◌, Whole}, Fault.image_of, Refusals.refused?}
use Rattle.rules.specs.Transfer.{TransferCall, GetFwInfo, Start, Send, Finish, Query, received_bytes}
use Rattle.rules.specs.{Module.OnTransfer, Cabinet.{Event, call, tick, power, reading}, History.{end, after_exchange}}
use Rattle.rules.specs.Transfers.{Answer, machine, Exchange, History, Kind, Started, Sent, Finished, Other, call_kind, kind_of}
use Rattle.rules.specs.{Sends.{tick_count, power_count, power_cycles}, Demand3.{Sound, staged_with, Stages, StagedOnce}}
use Rattle.rules.specs.{declared.Phase.Phase, declared.Phase.TheVariants.{Receiving, Verifying, Staged}}
use Rattle.rules.specs.{declared.Transfer.Transfer, declared.Device.Device, Beside.TakenOver}
use Rattle.rules.proofs.{page.Choice.{if_both, and_true}, histories.Joining.{end_join, counted_along, total_none}}
use Rattle.rules.proofs.page.Split.{Seen, seen_from, number, turned, taken, TransferPart, part_of, Doing, Transfers, Others, Powers, Reads, Act, Mine, Theirs, Ticks, toward, act, mine?, call_doing, part_verdict, part_change, part_next, part_tick, does, nexts, act_kind}
use Rattle.rules.proofs.{page.Through.{kind_act, stopped}, page.Facts.{never, is_phase, start_ok, send_ok, finish_ok, Tick, calm, counting, good, bad, tick_case}}
use Rattle.rules.proofs.{page.Invariant.part_when, page.Keeps.other_does, page.Possible.{stopped_same, sound_through, sound_next}, histories.Swap.{still_device}, histories.Gate.{module_there, sound_end}}
use Rattle.rules.proofs.histories.Places.{at_number, at_side, own_number, own_act}
use Rattle.std.specs.Prelude.{Ok}
use Rattle.rules.specs.Fault.{bad_image}

-- the next tick stages the version
pub record Ripe (s : TransferPart) (version : ℕ) : Type 0 where
  pub at : s.transfer.phase ≡ Verifying
  pub last : s.transfer.ticks ≤ 1
  pub good_image_law : image_of (received_bytes s.transfer s.area) ≡ Ok version

-- Verifying and Staged: no transfer call of the module changes anything
abbrev pub busy : Phase → Bool
busy p = (p is Verifying) || (p is Staged)

busy_not : (p : Phase) → busy p ≡ true → p ≡ Receiving → ⊥
busy_not p b e = never (sym b ∙ ap busy e)

busy_start : (p : Phase) → busy p ≡ true → (p is Verifying) ≡ false → (p is Staged) ≡ false → ⊥
busy_start p b v s = never (sym b ∙ rw (v, s))

quiet_change : (k : Bool) (s : TransferPart) (a b : Bool) (x : TransferCall) → busy s.transfer.phase ≡ true → part_verdict k s a b x ≡ Ok tt → part_change s x ≡ s
quiet_change k s a b GetFwInfo w v = refl
quiet_change k s a b Start w v = let o = start_ok k s a b v in absurd (busy_start s.transfer.phase w o.not_verifying o.not_staged)
quiet_change k s a b (Send context offset size piece) w v = absurd (busy_not s.transfer.phase w (send_ok k s a b context offset size piece v).at)
quiet_change k s a b (Finish flag reserved context) w v = absurd (busy_not s.transfer.phase w (finish_ok k s a b flag reserved context v).at)
quiet_change k s a b (Query context) w v = refl

pub quiet : (k : Bool) (s : TransferPart) (a b : Bool) (x : TransferCall) → busy s.transfer.phase ≡ true → part_next k s a b x ≡ s
quiet k s a b x w = part_when (λ (u : TransferPart). u ≡ s) (part_verdict k s a b x) s x refl (λ v. quiet_change k s a b x w v)

-- only a tick stages
staged_change : (s : TransferPart) (x : TransferCall) → (s.transfer.phase is Staged) ≡ false → ((part_change s x).transfer.phase is Staged) ≡ false
staged_change s GetFwInfo w = w
staged_change s Start w = refl
staged_change s (Send context offset size piece) w = w
staged_change s (Finish flag reserved context) w = if_both (λ (t : Transfer). (t.phase is Staged) ≡ false) (flag =? 0) refl refl
staged_change s (Query context) w = w

not_by_doing : (s : Seen) (d : Doing) → (s.own.transfer.phase is Staged) ≡ false → ((does s d).own.transfer.phase is Staged) ≡ false
not_by_doing s (Transfers host a b x n answer) w =
    part_when (λ (u : TransferPart). (u.transfer.phase is Staged) ≡ false) (part_verdict (taken s) (part_of s) a b x) (part_of s) x w (λ e. staged_change (part_of s) x w)
not_by_doing s (Others a b x n answer) w = w
not_by_doing s Powers w = refl
not_by_doing s (Reads new) w = w

tick_ripe : (s : TransferPart) (version : ℕ) → Tick s.transfer s.area → (s.transfer.phase is Staged) ≡ false → (part_tick s).transfer.phase ≡ Staged → (part_tick s).transfer.staged ≡ version → Ripe s version
tick_ripe s version (calm n e) w p v = never (sym (ap (λ (q : Phase). q is Staged) p) ∙ ap (λ (t : Transfer). t.phase is Staged) e ∙ w)
tick_ripe s version (counting q l e) w p v = never (sym (ap (λ (z : Phase). z is Staged) p) ∙ ap (λ (t : Transfer). t.phase is Staged) e ∙ w)
tick_ripe s version (good found q l i e) w p v = record { at = q; last = l; good_image_law = i ∙ ap Ok (sym (ap (λ (t : Transfer). t.staged) e) ∙ v) }
tick_ripe s version (bad q l i e) w p v = never (sym (ap (λ (z : Phase). z is Staged) p) ∙ ap (λ (t : Transfer). t.phase is Staged) e)

stages_act : (s : Seen) (f : Act) (version : ℕ) → (s.own.transfer.phase is Staged) ≡ false → (nexts s f).own.transfer.phase ≡ Staged → (nexts s f).own.transfer.staged ≡ version
    → (f ≡ Ticks) × Ripe (part_of s) version
stages_act s (Mine d) version w p v = never (sym (ap (λ (z : Phase). z is Staged) p) ∙ not_by_doing s d w)
stages_act s (Theirs d) version w p v =
    never (sym (ap (λ (z : Phase). z is Staged) p) ∙ ap (λ (z : Device). z.transfer.phase is Staged) (other_does (turned s) d) ∙ w)
stages_act s Ticks version w p v = (refl, tick_ripe (part_of s) version (tick_case s.own.transfer s.area) w p v)

toward_no_tick : (m : Bool) (d : Doing) → toward m d ≡ Ticks → ⊥
toward_no_tick true d e = let z : ◌≡◌ {A = ℕ} 0 1 = cc in omega arith
toward_no_tick false d e = let z : ◌≡◌ {A = ℕ} 0 1 = cc in omega arith

event_tick : (first : Bool) (event : Event) → act first event ≡ Ticks → event ≡ tick
event_tick first (call host named revision index request answer) e = absurd (toward_no_tick (mine? first named) (call_doing host revision index request answer) e)
event_tick first tick e = refl
event_tick first (power named) e = absurd (toward_no_tick (mine? first named) Powers e)
event_tick first (reading named new) e = absurd (toward_no_tick (mine? first named) (Reads new) e)

-- a module that is Staged stays as it is, but for its own power cycle
staged_doing : (s : Seen) (d : Doing) → s.own.transfer.phase ≡ Staged → (d ≡ Powers) ⊎ ((does s d).own.transfer ≡ s.own.transfer)
staged_doing s (Transfers host a b x n answer) p = inr (ap (λ (u : TransferPart). u.transfer) (quiet (taken s) (part_of s) a b x (ap busy p)))
staged_doing s (Others a b x n answer) p = inr refl
staged_doing s Powers p = inl refl
staged_doing s (Reads new) p = inr refl

staged_act : (s : Seen) (f : Act) → s.own.transfer.phase ≡ Staged → (f ≡ Mine Powers) ⊎ ((nexts s f).own.transfer ≡ s.own.transfer)
staged_act s (Mine d) p = go (staged_doing s d p)
  where
    go : (d ≡ Powers) ⊎ ((does s d).own.transfer ≡ s.own.transfer) → (Mine d ≡ Mine Powers) ⊎ ((does s d).own.transfer ≡ s.own.transfer)
    go (inl e) = inl (ap Mine e)
    go (inr e) = inr e
staged_act s (Theirs d) p = inr (ap (λ (z : Device). z.transfer) (other_does (turned s) d))
staged_act s Ticks p = inr (ap (λ (z : Device). z.transfer) (still_device s.own s.area (ap (λ (q : Phase). q is Verifying) p)))

-- Staged with a version: the phase, and the version
abbrev pub staged_as : (version : ℕ) → Transfer → Bool
staged_as version t = t.phase is Staged && t.staged =? version

record StagedAs (t : Transfer) (version : ℕ) : Type 0 where
  phase : t.phase ≡ Staged
  version_is : t.staged ≡ version

staged_as_law : (t : Transfer) (version : ℕ) → staged_as version t ≡ true → StagedAs t version
staged_as_law t version e =
    let q = and_true (t.phase is Staged) (t.staged =? version) e in
    record { phase = is_phase t.phase Staged q.0; version_is = eqb-true t.staged version q.1 }

-- "From Staged the staged version becomes the running one."
pub taken_over_law : TakenOver
taken_over_law named l w version s e =
    let first : Bool = named =? 0 in
    let u = seen_from first w in
    let q = staged_as_law u.own.transfer version e in
    let t = sound_through first w (power named) s (at_number named l) in
    ap (λ (z : Seen). z.own.transfer.running) (t.nexts_as ∙ ap (nexts u) (own_act named Powers))
    ∙ ap (λ (p : Phase). if p is Staged then u.own.transfer.staged else u.own.transfer.running) q.phase
    ∙ q.version_is

-- no event stages another version over a staged one
staged_over : (s : Seen) (f : Act) (version : ℕ) → s.own.transfer.phase ≡ Staged → staged_as version s.own.transfer ≡ false → staged_as version (nexts s f).own.transfer ≡ true → ⊥
staged_over s f version p n y = go (staged_act s f p)
  where
    go : (f ≡ Mine Powers) ⊎ ((nexts s f).own.transfer ≡ s.own.transfer) → ⊥
    go (inl e) = never (sym (ap (λ (q : Phase). q is Staged) (staged_as_law (nexts s f).own.transfer version y).phase) ∙ ap (λ (g : Act). (nexts s g).own.transfer.phase is Staged) e)
    go (inr e) = never (sym y ∙ ap (staged_as version) e ∙ n)

stages_next : (s : Seen) (f : Act) (version : ℕ) → staged_as version s.own.transfer ≡ false → staged_as version (nexts s f).own.transfer ≡ true → (f ≡ Ticks) × Ripe (part_of s) version
stages_next s f version n y = go (s.own.transfer.phase is Staged) refl
  where
    go : (b : Bool) → (s.own.transfer.phase is Staged) ≡ b → (f ≡ Ticks) × Ripe (part_of s) version
    go true e = absurd (staged_over s f version (is_phase s.own.transfer.phase Staged e) n y)
    go false e = let q = staged_as_law (nexts s f).own.transfer version y in stages_act s f version e q.phase q.version_is

pub stages_ripe : (named : ℕ) (w : Whole) (event : Event) (version : ℕ) → Sound w → Stages named w event version → (event ≡ tick) × Ripe (part_of (seen_from (named =? 0) w)) version
stages_ripe named w event version s g = go (stopped event) refl
  where
    first : Bool
    first = named =? 0

    go : (b : Bool) → stopped event ≡ b → (event ≡ tick) × Ripe (part_of (seen_from first w)) version
    go true e = never (sym g.afterwards ∙ ap (staged_with named version) (stopped_same w event s.area_size_law e) ∙ g.not_before)
    go false e =
        let q = stages_next (seen_from first w) (act first event) version g.not_before
        (ap (λ (u : Seen). staged_as version u.own.transfer) (sym (sound_through first w event s e).nexts_as) ∙ g.afterwards) in
        (event_tick first event q.0, q.1)

tick_good : (s : TransferPart) (version : ℕ) → Ripe s version → Tick s.transfer s.area → ((part_tick s).transfer.phase ≡ Staged) × ((part_tick s).transfer.staged ≡ version)
tick_good s version r (calm n e) = never (sym (ap (λ (z : Phase). z is Verifying) r.at) ∙ n)
tick_good s version r (counting p l e) = absurd (omega (arith, r.last))
tick_good s version r (good found p l i e) =
    let same : Ok found ≡ Ok version = sym i ∙ r.good_image_law in
    let v : found ≡ version = cc in
    (ap (λ (t : Transfer). t.phase) e, ap (λ (t : Transfer). t.staged) e ∙ v)
tick_good s version r (bad {reason} {k} p l i e) =
    let same : bad_image reason k ≡ Ok version = sym i ∙ r.good_image_law in
    let z : ◌≡◌ {A = ℕ} 0 1 = cc in absurd (omega arith)

pub ripe_stages : (named : ℕ) (w : Whole) (version : ℕ) → Sound w → Ripe (part_of (seen_from (named =? 0) w)) version → Stages named w tick version
ripe_stages named w version s r =
    let first : Bool = named =? 0 in
    let u : Seen = seen_from first w in
    let t = (sound_through first w tick s refl).nexts_as in
    let q = tick_good (part_of u) version r (tick_case u.own.transfer u.area) in
    record {
      not_before = ap (λ (z : Phase). z is Staged && u.own.transfer.staged =? version) r.at;
      afterwards =
          ap (λ (z : Seen). staged_as version z.own.transfer) t
          ∙ ap (λ (z : Phase). z is Staged && (part_tick (part_of u)).transfer.staged =? version) q.0
          ∙ eq-eqb (part_tick (part_of u)).transfer.staged version q.1;
    }

-- a call counts neither as a tick nor as a power cycle
no_tick_if : (b : Bool) (k : Kind) → tick_count k ≡ 0 → tick_count (if b then Other else k) ≡ 0
no_tick_if true k e = refl
no_tick_if false k e = e

pub no_tick : (named host : ℕ) (x : TransferCall) (got : Answer) → tick_count (call_kind named host (OnTransfer x) got) ≡ 0
no_tick named host GetFwInfo got = refl
no_tick named host Start got = no_tick_if (refused? got.reply.verdict) (Started named host _) refl
no_tick named host (Send context offset size piece) got = no_tick_if (refused? got.reply.verdict) (Sent named host context offset piece) refl
no_tick named host (Finish flag reserved context) got = no_tick_if (refused? got.reply.verdict) (Finished named host context flag) refl
no_tick named host (Query context) got = refl

-- Staged stays until a power cycle of the module
staged_next : (first : Bool) (s : Seen) (f : Act) (got : Answer) → s.own.transfer.phase ≡ Staged → power_count (number first) (act_kind first f got) ≡ 0 → (nexts s f).own.transfer.phase ≡ Staged
staged_next first s f got p z = go (staged_act s f p)
  where
    go : (f ≡ Mine Powers) ⊎ ((nexts s f).own.transfer ≡ s.own.transfer) → (nexts s f).own.transfer.phase ≡ Staged
    go (inl e) = absurd (omega (arith, ap (λ (g : Act). power_count (number first) (act_kind first g got)) e, own_number first))
    go (inr e) = ap (λ (t : Transfer). t.phase) e ∙ p

staged_step : (first : Bool) (w : Whole) (x : Exchange) → Sound w → (seen_from first w).own.transfer.phase ≡ Staged → power_count (number first) (kind_of x) ≡ 0
    → (seen_from first (machine.next w x.event)).own.transfer.phase ≡ Staged
staged_step first w x s p z = go (stopped x.event) refl
  where
    go : (b : Bool) → stopped x.event ≡ b → (seen_from first (machine.next w x.event)).own.transfer.phase ≡ Staged
    go true e = ap (λ (u : Whole). (seen_from first u).own.transfer.phase) (stopped_same w x.event s.area_size_law e) ∙ p
    go false e =
        ap (λ (u : Seen). u.own.transfer.phase) (sound_through first w x.event s e).nexts_as
        ∙ staged_next first (seen_from first w) (act first x.event) x.got p (ap (power_count (number first)) (sym (kind_act first x (module_there x e))) ∙ z)

staged_stays : (first : Bool) (w : Whole) (h : History) → Sound w → (seen_from first w).own.transfer.phase ≡ Staged → power_cycles (number first) h ≡ 0
    → (seen_from first (end machine w h)).own.transfer.phase ≡ Staged
staged_stays first w h s p z =
    (counted_along (after_exchange machine) (λ x. 0) (λ x. power_count (number first) (kind_of x) ≡ 0) (λ n u. Sound u × ((seen_from first u).own.transfer.phase ≡ Staged))
    (λ n u x q g. (sound_next u x.event g.0, staged_step first u x g.0 g.1 q)) w h (total_none (λ x. power_count (number first) (kind_of x)) h z) (s, p)).1

-- An image is staged once, from every sound cabinet.
pub staged_once : (w : Whole) (h : History) → Sound w → StagedOnce w h
staged_once w h s named l before between x event one two whole g k = go (power_cycles named between) refl
  where
    first : Bool
    first = named =? 0

    go : (n : ℕ) → power_cycles named between ≡ n → 1 ≤ power_cycles named between
    go zero e =
        let after_first : Whole = machine.next (end machine w before) x.event in
        let still_staged = staged_stays first after_first between (sound_next (end machine w before) x.event (sound_end w before s))
        (staged_as_law (seen_from first after_first).own.transfer one g.afterwards).phase (ap (λ (n : ℕ). power_cycles n between) (at_side named l) ∙ e) in
        let verifying = (stages_ripe named (end machine w h) event two (sound_end w h s) k).1.at in
        never (sym (ap (λ (p : Phase). p is Staged) still_staged)
        ∙ ap (λ (u : Whole). (seen_from first u).own.transfer.phase is Staged) (sym (ap (end machine w) whole ∙ end_join machine w before (x ∷ between)))
        ∙ ap (λ (p : Phase). p is Staged) verifying)
    go (suc n) e = omega arith
