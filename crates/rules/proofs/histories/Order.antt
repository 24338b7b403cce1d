-- One after another, in both modules together, whoever calls: which transfer is open, as the history tells it, is what the record says, and its bytes are those received.
-- Assumes nothing.
use Prim.Native.Nat.{ℕ, ◌+◌, ◌≤◌}
use mathlib.Core.{Path.{◌≡◌, refl, sym, ◌∙◌, ap, subst}, Bool.{Bool, true, false, not}, List.{[], List, ◌∷◌, ◌++◌, append_assoc}}
use native.Mathlib.Omega.{arith}
use lib.{ListN.{length, take, drop, length-append, length-take}, Seq.take_at}
use borrow.Author.Tests.{eqb-true, eqb-false, eq-eqb, ne_eqb, not-true, not-false}
use Rattle.std.specs.Prelude.{if◌then◌else◌}
use Rattle.rules.specs.{Tests.{◌=?◌, ◌<?◌}, Bytes.{number_at, splice}, Numbers.area_size, Record.{◌is◌, current, Whole}, Refusals.refused?, Table.row_of}
use Rattle.rules.specs.{Transfer.{TransferCall, GetFwInfo, Start, Send, Finish, Query, received_bytes}, Module.call_in, Cabinet.{Event, call, tick, power, reading}, History.{Plays, end, All, leads_to}}
use Rattle.rules.specs.Transfers.{Answer, machine, Exchange, History, Kind, Started, Sent, Finished, Ticked, Powered, Other, kind_of, event_kind, Open, none, by, after_power, open_after, InOrder, AllInOrder, open_next}
use Rattle.rules.specs.{Hosts.{Uses, AnsweredTo}, Demand1.buffer_too_short, Demand3.{remains, Sound}, declared.Phase.Phase, declared.Phase.TheVariants.{Receiving, Verifying}}
use Rattle.rules.specs.declared.Transfer.{Transfer}
use Rattle.rules.proofs.page.Choice.{if_both, or_false}
use Rattle.rules.proofs.page.Split.{Seen, seen_from, number, turned, taken, TransferPart, part_of, ◌with_its_part◌, Doing, Transfers, Others, Powers, Reads, Mine, Ticks, mine?, toward, call_doing, act, unserved?, misfit?, part_change, part_tick, told, does, answers, nexts, doing_kind}
use Rattle.rules.proofs.{page.Through.{Through, stopped, kind_call, side_named}, page.Facts.{never, is_phase, Kept, accepted_call, changes, was_served, StartOk, start_ok, SendOk, send_ok, finish_ok}, page.Possible.{Fine, sound_fine, sound_through, sound_next}}
use Rattle.rules.proofs.{histories.Gate.{Remains, unstopped, module_there}, histories.KindOf.{accepted_good, started_named, NoStart, given_number}, histories.Swap.{still, info_next, query_next}, histories.Inside.{begun, not_two}}
use Rattle.rules.proofs.{histories.Honest.{UsesDoing, uses_doing}, histories.Places.own_act, page.Invariant.by_tick}

-- the transfer with this context is receiving, and has these bytes
pub record Holding (context : ℕ) (bytes : List ℕ) (s : TransferPart) : Type 0 where
  pub at : s.transfer.phase ≡ Receiving
  pub ctx : current s.transfer ≡ context
  pub count : s.transfer.received ≡ length bytes
  pub held : received_bytes s.transfer s.area ≡ bytes

-- seen from a module: the one that holds it is the module itself, or the other
abbrev pub HoldingAt : (mine : Bool) (context : ℕ) (bytes : List ℕ) → Seen → Type 0
HoldingAt true context bytes s = Holding context bytes (part_of s)
HoldingAt false context bytes s = Holding context bytes (part_of (turned s))

-- what is open fits what is seen from a module
abbrev pub FitsSeen : (first : Bool) → Open → Seen → Type 0
FitsSeen first none s = ((s.own.transfer.phase is Receiving) ≡ false) × ((s.other.transfer.phase is Receiving) ≡ false)
FitsSeen first (by named host context bytes) s = ((1 <? named) ≡ false) × HoldingAt (mine? first named) context bytes s

-- what is open fits the cabinet
abbrev pub Fits : Open → Whole → Type 0
Fits o w = FitsSeen true o (seen_from true w)

turn_holding : (b : Bool) (context : ℕ) (bytes : List ℕ) (s : Seen) → HoldingAt b context bytes s → HoldingAt (not b) context bytes (turned s)
turn_holding true context bytes s h = h
turn_holding false context bytes s h = h

turn_back : (b : Bool) (context : ℕ) (bytes : List ℕ) (s : Seen) → HoldingAt (not b) context bytes s → HoldingAt b context bytes (turned s)
turn_back true context bytes s h = h
turn_back false context bytes s h = h

pub to_side : (first : Bool) (o : Open) (w : Whole) → Fits o w → FitsSeen first o (seen_from first w)
to_side true o w f = f
to_side false none w f = (f.1, f.0)
to_side false (by named host context bytes) w f = (f.0, turn_holding (named =? 0) context bytes (seen_from true w) f.1)

from_side : (first : Bool) (o : Open) (w : Whole) → FitsSeen first o (seen_from first w) → Fits o w
from_side true o w f = f
from_side false none w f = (f.1, f.0)
from_side false (by named host context bytes) w f = (f.0, turn_back (named =? 0) context bytes (seen_from false w) f.1)

-- which transfer is open after a history
abbrev pub open_at_end : Open → History → Open
open_at_end now h = leads_to open_next now h

-- a Send's or a Finish's context was answered to its host
abbrev pub UsesKind : History → Kind → Type 0
UsesKind past (Started named host context) = Unit {0}
UsesKind past (Sent named host context offset piece) = AnsweredTo host context past
UsesKind past (Finished named host context flag) = AnsweredTo host context past
UsesKind past Ticked = Unit {0}
UsesKind past (Powered named) = Unit {0}
UsesKind past Other = Unit {0}

-- what an exchange that remains does, by its kind: it comes in order, what is open fits what is seen after it, and only a Start gives a context, the next one
pub record Goes (first : Bool) (d : Doing) (o : Open) (k : Kind) (s u : Seen) : Type 0 where
  pub order : InOrder o k
  pub fits : FitsSeen first (open_after o k) u
  pub same_given : NoStart k → u.given ≡ s.given
  pub used : (past : History) → UsesDoing past d → UsesKind past k

-- the received bytes after a piece is written
written : (area : List ℕ) (offset : ℕ) (piece : List ℕ) → offset + length piece ≤ length area → take (offset + length piece) (splice offset piece area) ≡ take offset area ++ piece
written area offset piece l =
    ap (take (offset + length piece)) (sym (append_assoc (take offset area) piece (drop (offset + length piece) area)))
    ∙ take_at (take offset area ++ piece) (drop (offset + length piece) area) (offset + length piece) (simp (length-append, length-take) (omega arith))

-- a module's own number, and whose a number is
own_mine : (first : Bool) → mine? first (number first) ≡ true
own_mine true = refl
own_mine false = refl

number_there : (first : Bool) → (1 <? number first) ≡ false
number_there true = refl
number_there false = refl

mine_number : (first : Bool) (named : ℕ) → (1 <? named) ≡ false → mine? first named ≡ true → number first ≡ named
mine_number true named l e = ap number (sym e) ∙ side_named named l
mine_number false named l e = ap number (sym (not-true (named =? 0) e)) ∙ side_named named l

not_mine : (first : Bool) (named : ℕ) → mine? first named ≡ false → (number first =? named) ≡ false
not_mine true named e = ne_eqb 0 named (λ z. eqb-false named 0 e (sym z))
not_mine false named e = ne_eqb 1 named (λ z. let q = eqb-true named 0 (not-false (named =? 0) e) in omega arith)

-- where a module is receiving, what is open is its own transfer
pub record Opens (first : Bool) (o : Open) (s : Seen) : Type 0 where
  pub named : ℕ
  pub host : ℕ
  pub context : ℕ
  pub bytes : List ℕ
  pub open_is : o ≡ by named host context bytes
  pub own : number first ≡ named
  pub holding : Holding context bytes (part_of s)

pub opens : (first : Bool) (o : Open) (s : Seen) → Fine s → FitsSeen first o s → s.own.transfer.phase ≡ Receiving → Opens first o s
opens first none s w f p = never (sym (ap (λ (q : Phase). q is Receiving) p) ∙ f.0)
opens first (by named host context bytes) s w f p = go (mine? first named) refl f.1
  where
    go : (b : Bool) → mine? first named ≡ b → HoldingAt b context bytes s → Opens first (by named host context bytes) s
    go true e h = record { named = named; host = host; context = context; bytes = bytes; open_is = refl; own = mine_number first named f.0 e; holding = h }
    go false e h = absurd (not_two s w p h.at)

-- and where neither it nor the other is, nothing is open
nothing_open : (first : Bool) (o : Open) (s : Seen) → FitsSeen first o s → (s.own.transfer.phase is Receiving) ≡ false → (s.other.transfer.phase is Receiving) ≡ false → o ≡ none
nothing_open first none s f a b = refl
nothing_open first (by named host context bytes) s f a b = go (mine? first named) f.1
  where
    go : (m : Bool) → HoldingAt m context bytes s → by named host context bytes ≡ none
    go true h = never (sym (ap (λ (q : Phase). q is Receiving) h.at) ∙ a)
    go false h = never (sym (ap (λ (q : Phase). q is Receiving) h.at) ∙ b)

send_holds : (s : TransferPart) (c : ℕ) (bytes : List ℕ) (context offset size : ℕ) (piece : List ℕ) → length s.area ≡ area_size → Holding c bytes s → SendOk s.transfer context offset size piece
    → Holding c (bytes ++ piece) (part_change s (Send context offset size piece))
send_holds s c bytes context offset size piece long f k =
    record { at = k.at; ctx = f.ctx; count = omega (arith, length-append bytes piece, f.count, k.size_is); held = joined }
  where
    wide : offset + length piece ≤ length s.area
    wide = omega (arith, k.inside, k.size_is, long)

    joined : take (s.transfer.received + size) (splice offset piece s.area) ≡ bytes ++ piece
    joined =
        let n : s.transfer.received + size ≡ offset + length piece = omega (arith, k.here, k.size_is) in
        ap (λ (n : ℕ). take n (splice offset piece s.area)) n
        ∙ written s.area offset piece wide
        ∙ ap (λ (n : ℕ). take n s.area ++ piece) k.here
        ∙ ap (λ (z : List ℕ). z ++ piece) f.held

pub not_receiving : (t : Transfer) → (t.phase ≡ Receiving → ⊥) → (t.phase is Receiving) ≡ false
not_receiving t never_is = go (t.phase is Receiving) refl
  where
    go : (m : Bool) → (t.phase is Receiving) ≡ m → (t.phase is Receiving) ≡ false
    go true z = absurd (never_is (is_phase t.phase Receiving z))
    go false z = z

-- what is open fits by the two modules' parts alone
fits_parts : (first : Bool) (o : Open) (s u : Seen) → part_of u ≡ part_of s → part_of (turned u) ≡ part_of (turned s) → FitsSeen first o s → FitsSeen first o u
fits_parts first none s u a b f = (ap (λ (p : TransferPart). p.transfer.phase is Receiving) a ∙ f.0, ap (λ (p : TransferPart). p.transfer.phase is Receiving) b ∙ f.1)
fits_parts first (by named host context bytes) s u a b f = (f.0, go (mine? first named) f.1)
  where
    go : (m : Bool) → HoldingAt m context bytes s → HoldingAt m context bytes u
    go true h = subst (Holding context bytes) (sym a) h
    go false h = subst (Holding context bytes) (sym b) h

-- a kind that is chosen by acceptance
pub chosen : (got : Answer) (k : Kind) → refused? got.reply.verdict ≡ false → (if refused? got.reply.verdict then Other else k) ≡ k
chosen got k e = rw e

-- something that is nothing to the transfers, and leaves both modules' parts
goes_other : (first : Bool) (d : Doing) (o : Open) (s u : Seen) → FitsSeen first o u → u.given ≡ s.given → Goes first d o Other s u
goes_other first d o s u f g = record { order = tt; fits = f; same_given = λ n. g; used = λ past v. tt }

module _ (first : Bool) (o : Open) (s : Seen) (w : Fine s) (f : FitsSeen first o s) (got : Answer) where
  goes_start : (host : ℕ) (a b : Bool) (n : ℕ) (answer : List ℕ) → told s (Transfers host a b Start n answer) ≡ got → Kept got
      → Goes first (Transfers host a b Start n answer) o (doing_kind (number first) (Transfers host a b Start n answer) got) s (does s (Transfers host a b Start n answer))
  goes_start host a b n answer p k =
      let v = accepted_call (taken s) (part_of s) a b Start n answer (ap (λ (z : Answer). remains z.reply.verdict) p ∙ k) in
      let d : Doing = Transfers host a b Start n answer in
      let c : ℕ = number_at 4 4 got.buffer in
      let q = chosen got (Started (number first) host c) (accepted_good (taken s) (part_of s) a b Start n answer got p v) in
      let ok : StartOk s.own.transfer s.given (taken s) = start_ok (taken s) (part_of s) a b v in
      let e = changes (taken s) (part_of s) a b Start v in
      let number_is : c ≡ s.given + 1 = given_number (taken s) (part_of s) a b n answer got p v w.fit in
      subst (λ (z : Kind). Goes first d o z s (does s d)) (sym q)
      (record {
        order = nothing_open first o s f ok.not_receiving (or_false (s.other.transfer.phase is Receiving) (s.other.transfer.phase is Verifying) ok.free).0;
        fits = (
          number_there first,
          subst (λ (m : Bool). HoldingAt m c [] (does s d)) (sym (own_mine first))
              (subst (λ (z : TransferPart). Holding c [] z) (sym e) (record { at = refl; ctx = sym number_is; count = refl; held = refl })),
        );
        same_given = λ z. absurd z;
        used = λ past u. tt;
      })

  goes_send : (host : ℕ) (a b : Bool) (context offset size : ℕ) (piece : List ℕ) (n : ℕ) (answer : List ℕ) → told s (Transfers host a b (Send context offset size piece) n answer) ≡ got → Kept got
      → Goes first (Transfers host a b (Send context offset size piece) n answer) o (doing_kind (number first) (Transfers host a b (Send context offset size piece) n answer) got) s
      (does s (Transfers host a b (Send context offset size piece) n answer))
  goes_send host a b context offset size piece n answer p k =
      let x : TransferCall = Send context offset size piece in
      let d : Doing = Transfers host a b x n answer in
      let v = accepted_call (taken s) (part_of s) a b x n answer (ap (λ (z : Answer). remains z.reply.verdict) p ∙ k) in
      let q = chosen got (Sent (number first) host context offset piece) (accepted_good (taken s) (part_of s) a b x n answer got p v) in
      let ok = send_ok (taken s) (part_of s) a b context offset size piece v in
      let now : Opens first o s = opens first o s w f ok.at in
      let e = changes (taken s) (part_of s) a b x v in
      subst (λ (z : Kind). Goes first d o z s (does s d)) (sym q)
      (subst (λ (z : Open). Goes first d z (Sent (number first) host context offset piece) s (does s d)) (sym now.open_is)
      (record {
        order = ((now.own, ok.own ∙ now.holding.ctx), ok.here ∙ now.holding.count);
        fits = (
          subst (λ (z : ℕ). (1 <? z) ≡ false) now.own (number_there first),
          subst (λ (z : ℕ). HoldingAt (mine? first z) now.context (now.bytes ++ piece) (does s d)) now.own
              (subst (λ (m : Bool). HoldingAt m now.context (now.bytes ++ piece) (does s d)) (sym (own_mine first))
              (subst (λ (z : TransferPart). Holding now.context (now.bytes ++ piece) z) (sym e) (send_holds (part_of s) now.context now.bytes context offset size piece w.ok.part.size now.holding ok))),
        );
        same_given = λ z. ap (λ (u : TransferPart). u.given) e;
        used = λ past u. u (was_served (taken s) (part_of s) a b x v).fitting;
      }))

  goes_finish : (host : ℕ) (a b : Bool) (flag : ℕ) (reserved : List ℕ) (context n : ℕ) (answer : List ℕ) → told s (Transfers host a b (Finish flag reserved context) n answer) ≡ got → Kept got
      → Goes first (Transfers host a b (Finish flag reserved context) n answer) o (doing_kind (number first) (Transfers host a b (Finish flag reserved context) n answer) got) s
      (does s (Transfers host a b (Finish flag reserved context) n answer))
  goes_finish host a b flag reserved context n answer p k =
      let x : TransferCall = Finish flag reserved context in
      let d : Doing = Transfers host a b x n answer in
      let v = accepted_call (taken s) (part_of s) a b x n answer (ap (λ (z : Answer). remains z.reply.verdict) p ∙ k) in
      let q = chosen got (Finished (number first) host context flag) (accepted_good (taken s) (part_of s) a b x n answer got p v) in
      let ok = finish_ok (taken s) (part_of s) a b flag reserved context v in
      let now : Opens first o s = opens first o s w f ok.at in
      let e = changes (taken s) (part_of s) a b x v in
      subst (λ (z : Kind). Goes first d o z s (does s d)) (sym q)
      (subst (λ (z : Open). Goes first d z (Finished (number first) host context flag) s (does s d)) (sym now.open_is)
      (record {
        order = (now.own, ok.own ∙ now.holding.ctx);
        fits = (
          ap (λ (u : TransferPart). u.transfer.phase is Receiving) e ∙ if_both (λ (t : Transfer). (t.phase is Receiving) ≡ false) (flag =? 0) refl refl,
          not_receiving s.other.transfer (λ z. not_two s w ok.at z),
        );
        same_given = λ z. ap (λ (u : TransferPart). u.given) e;
        used = λ past u. u (was_served (taken s) (part_of s) a b x v).fitting;
      }))

  goes_power : Goes first Powers o (Powered (number first)) s (does s Powers)
  goes_power = record { order = tt; fits = closes o f; same_given = λ z. refl; used = λ past u. tt }
    where
      closes : (z : Open) → FitsSeen first z s → FitsSeen first (after_power (number first) z) (does s Powers)
      closes none g = (refl, g.1)
      closes (by named host context bytes) g = go (mine? first named) refl g.1
        where
          go : (m : Bool) → mine? first named ≡ m → HoldingAt m context bytes s → FitsSeen first (after_power (number first) (by named host context bytes)) (does s Powers)
          go true e h =
              subst (λ (c : Bool). FitsSeen first (if c then none else by named host context bytes) (does s Powers)) (sym (eq-eqb (number first) named (mine_number first named g.0 e)))
              (refl, not_receiving s.other.transfer (λ z. not_two s w h.at z))
          go false e h =
              subst (λ (c : Bool). FitsSeen first (if c then none else by named host context bytes) (does s Powers)) (sym (not_mine first named e))
              (g.0, subst (λ (m : Bool). HoldingAt m context bytes (does s Powers)) (sym e) h)

  goes_does : (d : Doing) → told s d ≡ got → Kept got → Goes first d o (doing_kind (number first) d got) s (does s d)
  goes_does (Transfers host a b GetFwInfo n answer) p k =
      let e = ap (λ (u : TransferPart). s with_its_part u) (info_next (taken s) (part_of s) a b) in
      goes_other first (Transfers host a b GetFwInfo n answer) o s (does s (Transfers host a b GetFwInfo n answer)) (subst (FitsSeen first o) (sym e) f) (ap (λ (u : Seen). u.given) e)
  goes_does (Transfers host a b Start n answer) p k = goes_start host a b n answer p k
  goes_does (Transfers host a b (Send context offset size piece) n answer) p k = goes_send host a b context offset size piece n answer p k
  goes_does (Transfers host a b (Finish flag reserved context) n answer) p k = goes_finish host a b flag reserved context n answer p k
  goes_does (Transfers host a b (Query context) n answer) p k =
      let e = ap (λ (u : TransferPart). s with_its_part u) (query_next (taken s) (part_of s) a b context) in
      goes_other first (Transfers host a b (Query context) n answer) o s (does s (Transfers host a b (Query context) n answer)) (subst (FitsSeen first o) (sym e) f) (ap (λ (u : Seen). u.given) e)
  goes_does (Others a b y n answer) p k = goes_other first (Others a b y n answer) o s (does s (Others a b y n answer)) (fits_parts first o s (does s (Others a b y n answer)) refl refl f) refl
  goes_does Powers p k = goes_power
  goes_does (Reads new) p k = goes_other first (Reads new) o s (does s (Reads new)) (fits_parts first o s (does s (Reads new)) refl refl f) refl

-- a tick: whoever holds the open transfer is receiving, and no tick changes that
tick_fits : (first : Bool) (o : Open) (s : Seen) → FitsSeen first o s → FitsSeen first o (nexts s Ticks)
tick_fits first none s f = (calm (part_of s) f.0, calm (part_of (turned s)) f.1)
  where
    calm : (p : TransferPart) → (p.transfer.phase is Receiving) ≡ false → ((part_tick p).transfer.phase is Receiving) ≡ false
    calm p n = by_tick (λ (u : TransferPart). (u.transfer.phase is Receiving) ≡ false) p n (λ q l. n) (λ version q. refl) (λ reason faulty k q. refl)
tick_fits first (by named host context bytes) s f = (f.0, go (mine? first named) f.1)
  where
    go : (m : Bool) → HoldingAt m context bytes s → HoldingAt m context bytes (nexts s Ticks)
    go true h = subst (λ (u : TransferPart). Holding context bytes u) (sym (still (part_of s) (ap (λ (q : Phase). q is Verifying) h.at))) h
    go false h = subst (λ (u : TransferPart). Holding context bytes u) (sym (still (part_of (turned s)) (ap (λ (q : Phase). q is Verifying) h.at))) h

-- what an event that remains does to the cabinet, by its kind
pub record Went (o : Open) (k : Kind) (event : Event) (w u : Whole) : Type 0 where
  pub order : InOrder o k
  pub fits : Fits (open_after o k) u
  pub same_given : NoStart k → u.cabinet.contexts ≡ w.cabinet.contexts
  pub used : (past : History) → ((host context : ℕ) → Uses event host context → AnsweredTo host context past) → UsesKind past k

-- what a module is asked, seen from there
went_does : (o : Open) (got : Answer) (event : Event) (w u : Whole) (named : ℕ) (d : Doing) → Sound w → Fits o w → Kept got → (1 <? named) ≡ false
    → told (seen_from (named =? 0) w) d ≡ got → seen_from (named =? 0) u ≡ does (seen_from (named =? 0) w) d
    → ((past : History) → ((host context : ℕ) → Uses event host context → AnsweredTo host context past) → UsesDoing past d) → Went o (doing_kind named d got) event w u
went_does o got event w u named d sound f k there p e uses =
    subst (λ (n : ℕ). Went o (doing_kind n d got) event w u) (side_named named there)
    (record {
      order = g.order;
      fits = from_side first (open_after o (doing_kind (number first) d got)) u (subst (FitsSeen first (open_after o (doing_kind (number first) d got))) (sym e) g.fits);
      same_given = λ n. ap (λ (z : Seen). z.given) e ∙ g.same_given n;
      used = λ past q. g.used past (uses past q);
    })
  where
    first : Bool
    first = named =? 0

    g : Goes first d o (doing_kind (number first) d got) (seen_from first w) (does (seen_from first w) d)
    g = goes_does first o (seen_from first w) (sound_fine first w sound) (to_side first o w f) got d p k

module _ (o : Open) (got : Answer) (w : Whole) (sound : Sound w) (f : Fits o w) (k : Kept got) where
  -- an event that a module is asked is what it is seen to be from there
  named_event : (event : Event) (named : ℕ) (d : Doing) → (1 <? named) ≡ false → act (named =? 0) event ≡ toward (mine? (named =? 0) named) d
      → Through (named =? 0) w event → machine.answer w event ≡ got
      → ((past : History) → ((host context : ℕ) → Uses event host context → AnsweredTo host context past) → UsesDoing past d)
      → Went o (doing_kind named d got) event w (machine.next w event)
  named_event event named d there named_so t p uses =
      let s : Seen = seen_from (named =? 0) w in
      let own : act (named =? 0) event ≡ Mine d = named_so ∙ own_act named d in
      went_does o got event w (machine.next w event) named d sound f k there (ap (answers s) (sym own) ∙ sym t.answers_as ∙ p) (t.nexts_as ∙ ap (nexts s) own) uses

  went : (event : Event) → stopped event ≡ false → machine.answer w event ≡ got → Went o (event_kind event got) event w (machine.next w event)
  went (call host named revision index request answer) n p =
      let there = (or_false (buffer_too_short (call host named revision index request answer)) (1 <? named) n).1 in
      subst (λ (z : Kind). Went o z (call host named revision index request answer) w (machine.next w (call host named revision index request answer)))
      (sym (kind_call named host (unserved? revision index) (misfit? index request) (call_in revision index request) (row_of index).answer answer got))
      (named_event (call host named revision index request answer) named (call_doing host revision index request answer) there refl
      (sound_through (named =? 0) w (call host named revision index request answer) sound n) p
      (λ past q. uses_doing past host named revision index request answer q))
  went tick n p =
      let t = sound_through true w tick sound n in
      record {
        order = tt;
        fits = subst (FitsSeen true o) (sym t.nexts_as) (tick_fits true o (seen_from true w) f);
        same_given = λ z. ap (λ (u : Seen). u.given) t.nexts_as;
        used = λ past q. tt;
      }
  went (power named) n p = named_event (power named) named Powers n refl (sound_through (named =? 0) w (power named) sound n) p (λ past q. tt)
  went (reading named new) n p = named_event (reading named new) named (Reads new) n refl (sound_through (named =? 0) w (reading named new) sound n) p (λ past q. tt)

pub goes : (x : Exchange) (o : Open) (w : Whole) → Sound w → Fits o w → machine.answer w x.event ≡ x.got → Kept x.got
    → Went o (kind_of x) x.event w (machine.next w x.event)
goes x o w sound f p k = went o x.got w sound f k x.event (unstopped w x sound p k) p

-- what remains stands in order; what is open at its end fits the cabinet
pub orders : (o : Open) (w : Whole) (h : History) → Sound w → Fits o w → Plays machine w h → All Remains h → AllInOrder o h
orders o w [] s f p k = tt
orders o w (x ∷ h) s f p k =
    let g = goes x o w s f p.0 k.0 in
    (g.order, orders (open_after o (kind_of x)) (machine.next w x.event) h (sound_next w x.event s) g.fits p.1 k.1)

pub fits_at : (o : Open) (w : Whole) (h : History) → Sound w → Fits o w → Plays machine w h → All Remains h → Fits (open_at_end o h) (end machine w h)
fits_at o w [] s f p k = f
fits_at o w (x ∷ h) s f p k =
    let g = goes x o w s f p.0 k.0 in
    fits_at (open_after o (kind_of x)) (machine.next w x.event) h (sound_next w x.event s) g.fits p.1 k.1

-- a Start of either module is answered the number after the last one given out, which then is the last one given out
pub record StartedAt (w u : Whole) (named context : ℕ) : Type 0 where
  pub there : (1 <? named) ≡ false
  pub next_number : context ≡ w.cabinet.contexts + 1
  pub out : u.cabinet.contexts ≡ context
  pub allowed : StartOk (seen_from (named =? 0) w).own.transfer w.cabinet.contexts (taken (seen_from (named =? 0) w))

pub started_at : (w : Whole) (x : Exchange) (named host context : ℕ) → Sound w → kind_of x ≡ Started named host context → machine.answer w x.event ≡ x.got → Remains x
    → StartedAt w (machine.next w x.event) named context
started_at w x named host context sound k p r =
    let u = unstopped w x sound p r in
    let there = started_named x named host context k (module_there x u) in
    let first : Bool = named =? 0 in
    let t = sound_through first w x.event sound u in
    let b = begun first (seen_from first w) x host context (sound_fine first w sound) u (k ∙ ap (λ (n : ℕ). Started n host context) (sym (side_named named there))) (sym t.answers_as ∙ p) in
    record {
      there = there;
      next_number = b.next_number;
      out = ap (λ (z : Seen). z.given) t.nexts_as ∙ ap (λ (z : TransferPart). z.given) b.part_is ∙ sym b.next_number;
      allowed = b.allowed;
    }
