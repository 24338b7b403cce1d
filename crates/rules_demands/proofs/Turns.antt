-- One after another, each from one host, written out: which transfer is open is told by its Start, with no Start, no Finish and no power cycle of its module since.
-- Assumes nothing.
use Prim.Native.Nat.{ℕ}
use native.Mathlib.Omega.{arith}
use borrow.Author.Tests.{ne_eqb, eqb-false}
use mathlib.Core.{Path.{◌≡◌, refl, sym, ◌∙◌, ap, subst}, Logic.{◌⊎◌, inl, inr}, Bool.{Bool, true, false}, List.{List, [], ◌∷◌, ◌++◌, append-nil, append_assoc}}
use lib.ListN.{length}
use Rattle.std.specs.Prelude.{if◌then◌else◌}
use Rattle.rules.specs.Tests.{◌=?◌}
use Rattle.rules.specs.History.{All, leads_to, ◌and_then◌}
use Rattle.rules.specs.Transfers.{Exchange, History, Kind, Started, Sent, Finished, Ticked, Powered, Other, kind_of, Open, none, by, after_power, open_after, open_next, InOrder, AllInOrder, ByStarter, AllByStarter}
use Rattle.rules.proofs.histories.Joining.{leads_join, throughout_right}
use Rattle.rules_demands.specs.{Words.{what, bytes_of, joined}, Histories.{LeavesOpen, OpenAfter, OneAfterAnotherWrittenOut, FromOneHostWrittenOut}}
use Rattle.rules_demands.proofs.Words.{kind_is}

-- what is open after a history that began with none
abbrev open_at : History → Open
open_at h = leads_to open_next none h

never_none : {own s c : ℕ} {bytes : List ℕ} → none ≡ by own s c bytes → ⊥
never_none e = let z : ◌≡◌ {A = ℕ} 0 1 = cc in omega arith

-- an exchange that leaves a transfer open adds its bytes
adds : (own s c : ℕ) (b : List ℕ) (k : Kind) → LeavesOpen own k → open_after (by own s c b) k ≡ by own s c (b ++ bytes_of k)
adds own s c b (Started named host context) l = absurd l
adds own s c b (Sent named host context offset piece) l = refl
adds own s c b (Finished named host context flag) l = absurd l
adds own s c b Ticked l = ap (by own s c) (sym (append-nil b))
adds own s c b (Powered named) l = ap (λ (z : Bool). if z then none else by own s c b) (ne_eqb named own l) ∙ ap (by own s c) (sym (append-nil b))
adds own s c b Other l = ap (by own s c) (sym (append-nil b))

stays_open : (own s c : ℕ) (b : List ℕ) (h : History) → All (λ x. LeavesOpen own (what x)) h → leads_to open_next (by own s c b) h ≡ by own s c (b ++ joined h)
stays_open own s c b [] all = ap (by own s c) (sym (append-nil b))
stays_open own s c b (x ∷ h) all =
    ap (λ (o : Open). leads_to open_next o h) (ap (open_after (by own s c b)) (kind_is x) ∙ adds own s c b (what x) all.0)
    ∙ stays_open own s c (b ++ bytes_of (what x)) h all.1
    ∙ ap (by own s c) (append_assoc b (bytes_of (what x)) (joined h))

open_now : (h : History) (own s c : ℕ) (o : OpenAfter h own s c) → open_at h ≡ by own s c (joined o.since)
open_now h own s c o =
    ap open_at o.stands
    ∙ leads_join open_next none o.earlier (o.start ∷ o.since)
    ∙ ap (λ (k : Kind). leads_to open_next (open_after (open_at o.earlier) k) o.since) (kind_is o.start ∙ o.starts)
    ∙ stays_open own s c [] o.since o.undisturbed

-- and the other way round: it was open from the first, or its Start is among them
record FromTheFirst (now : Open) (h : History) (own s c : ℕ) (bytes : List ℕ) : Type 0 where
  first : List ℕ
  open_first : now ≡ by own s c first
  undisturbed : All (λ x. LeavesOpen own (what x)) h
  bytes_are : bytes ≡ first ++ joined h

record StartedSince (h : History) (own s c : ℕ) (bytes : List ℕ) : Type 0 where
  opened : OpenAfter h own s c
  bytes_are : bytes ≡ joined opened.since

-- what is open after a power cycle is of another module, and was open before
record Left (named : ℕ) (now : Open) (own s c : ℕ) (bytes : List ℕ) : Type 0 where
  before : now ≡ by own s c bytes
  another : named ≡ own → ⊥

left_open : (named : ℕ) (now : Open) (own s c : ℕ) (bytes : List ℕ) → after_power named now ≡ by own s c bytes → Left named now own s c bytes
left_open named none own s c bytes e = absurd (never_none e)
left_open named (by n t d b) own s c bytes e = go (named =? n) refl
  where
    go : (z : Bool) → (named =? n) ≡ z → Left named (by n t d b) own s c bytes
    go true f = absurd (never_none (sym (ap (λ (z : Bool). if z then none else by n t d b) f) ∙ e))
    go false f =
        let same : by n t d b ≡ by own s c bytes = sym (ap (λ (z : Bool). if z then none else by n t d b) f) ∙ e in
        let modules : n ≡ own = cc in
        record { before = same; another = λ q. eqb-false named n f (q ∙ sym modules) }

one_before : (now : Open) (x : Exchange) (h : History) (own s c : ℕ) (bytes : List ℕ) (k : Kind) → what x ≡ k
    → FromTheFirst (open_after now k) h own s c bytes → FromTheFirst now (x ∷ h) own s c bytes ⊎ StartedSince (x ∷ h) own s c bytes
one_before now x h own s c bytes (Started named host context) e f =
    let same : by named host context [] ≡ by own s c f.first = f.open_first in
    let modules : named ≡ own = cc in
    let hosts : host ≡ s = cc in
    let contexts : context ≡ c = cc in
    let nothing : [] ≡ f.first = cc in
    inr
    (record {
      opened = record {
        earlier = [];
        start = x;
        since = h;
        stands = refl;
        starts = e ∙ ap (λ (n : ℕ). Started n host context) modules ∙ ap (λ (n : ℕ). Started own n context) hosts ∙ ap (Started own s) contexts;
        undisturbed = f.undisturbed;
      };
      bytes_are = f.bytes_are ∙ ap (λ (l : List ℕ). l ++ joined h) (sym nothing);
    })
one_before none x h own s c bytes (Sent named host context offset piece) e f = absurd (never_none f.open_first)
one_before (by n starter given b) x h own s c bytes (Sent named host context offset piece) e f =
    let same : by n starter given (b ++ piece) ≡ by own s c f.first = f.open_first in
    let modules : n ≡ own = cc in
    let hosts : starter ≡ s = cc in
    let contexts : given ≡ c = cc in
    let more : b ++ piece ≡ f.first = cc in
    inl
    (record {
      first = b;
      open_first = ap (λ (z : ℕ). by z starter given b) modules ∙ ap (λ (z : ℕ). by own z given b) hosts ∙ ap (λ (z : ℕ). by own s z b) contexts;
      undisturbed = (subst (LeavesOpen own) (sym e) tt, f.undisturbed);
      bytes_are =
          f.bytes_are
          ∙ ap (λ (l : List ℕ). l ++ joined h) (sym more)
          ∙ append_assoc b piece (joined h)
          ∙ ap (λ (z : Kind). b ++ (bytes_of z ++ joined h)) (sym e);
    })
one_before now x h own s c bytes (Finished named host context flag) e f = absurd (never_none f.open_first)
one_before now x h own s c bytes Ticked e f =
    inl
    (record {
      first = f.first;
      open_first = f.open_first;
      undisturbed = (subst (LeavesOpen own) (sym e) tt, f.undisturbed);
      bytes_are = f.bytes_are ∙ ap (λ (z : Kind). f.first ++ (bytes_of z ++ joined h)) (sym e);
    })
one_before now x h own s c bytes (Powered named) e f =
    let q = left_open named now own s c f.first f.open_first in
    inl
    (record {
      first = f.first;
      open_first = q.before;
      undisturbed = (subst (LeavesOpen own) (sym e) q.another, f.undisturbed);
      bytes_are = f.bytes_are ∙ ap (λ (z : Kind). f.first ++ (bytes_of z ++ joined h)) (sym e);
    })
one_before now x h own s c bytes Other e f =
    inl
    (record {
      first = f.first;
      open_first = f.open_first;
      undisturbed = (subst (LeavesOpen own) (sym e) tt, f.undisturbed);
      bytes_are = f.bytes_are ∙ ap (λ (z : Kind). f.first ++ (bytes_of z ++ joined h)) (sym e);
    })

opened : (now : Open) (h : History) (own s c : ℕ) (bytes : List ℕ) → leads_to open_next now h ≡ by own s c bytes
    → FromTheFirst now h own s c bytes ⊎ StartedSince h own s c bytes
opened now [] own s c bytes e = inl (record { first = bytes; open_first = e; undisturbed = tt; bytes_are = sym (append-nil bytes) })
opened now (x ∷ h) own s c bytes e = go (opened (open_next now x) h own s c bytes e)
  where
    go : FromTheFirst (open_next now x) h own s c bytes ⊎ StartedSince h own s c bytes → FromTheFirst now (x ∷ h) own s c bytes ⊎ StartedSince (x ∷ h) own s c bytes
    go (inl f) = one_before now x h own s c bytes (what x) refl (subst (λ (k : Kind). FromTheFirst (open_after now k) h own s c bytes) (kind_is x) f)
    go (inr f) =
        let o = f.opened in
        inr
        (record {
          opened = record { earlier = x ∷ o.earlier; start = o.start; since = o.since; stands = ap (λ (z : History). x ∷ z) o.stands; starts = o.starts; undisturbed = o.undisturbed };
          bytes_are = f.bytes_are;
        })

its_start : (h : History) (own s c : ℕ) (bytes : List ℕ) → open_at h ≡ by own s c bytes → StartedSince h own s c bytes
its_start h own s c bytes e = go (opened none h own s c bytes e)
  where
    go : FromTheFirst none h own s c bytes ⊎ StartedSince h own s c bytes → StartedSince h own s c bytes
    go (inl f) = absurd (never_none f.open_first)
    go (inr f) = f

module _ (h : History) (before since : History) (x : Exchange) (whole : h ≡ before and_then x ∷ since) (k : Kind) (is : what x ≡ k) where
  in_order : AllInOrder none h → InOrder (open_at before) k
  in_order all =
      subst (InOrder (open_at before)) (kind_is x ∙ is)
      (throughout_right open_next (λ o z. InOrder o (kind_of z)) none before (x ∷ since) (subst (AllInOrder none) whole all)).0

  by_starter : AllByStarter none h → ByStarter (open_at before) k
  by_starter all =
      subst (ByStarter (open_at before)) (kind_is x ∙ is)
      (throughout_right open_next (λ o z. ByStarter o (kind_of z)) none before (x ∷ since) (subst (AllByStarter none) whole all)).0

sends_turn : (before : History) (o : Open) (named host context offset : ℕ) (piece : List ℕ) → open_at before ≡ o → InOrder o (Sent named host context offset piece)
    → (starter : ℕ) × (now : OpenAfter before named starter context) × (offset ≡ length (joined now.since))
sends_turn before none named host context offset piece e i = absurd i.0
sends_turn before (by own starter given bytes) named host context offset piece e i =
    let f = its_start before named starter context bytes (e ∙ ap (λ (n : ℕ). by n starter given bytes) (sym i.0.0) ∙ ap (λ (n : ℕ). by named starter n bytes) (sym i.0.1)) in
    (starter, f.opened, i.1 ∙ ap length f.bytes_are)

finishes_turn : (before : History) (o : Open) (named host context flag : ℕ) → open_at before ≡ o → InOrder o (Finished named host context flag)
    → (starter : ℕ) × OpenAfter before named starter context
finishes_turn before none named host context flag e i = absurd i
finishes_turn before (by own starter given bytes) named host context flag e i =
    (starter, (its_start before named starter context bytes (e ∙ ap (λ (n : ℕ). by n starter given bytes) (sym i.0) ∙ ap (λ (n : ℕ). by named starter n bytes) (sym i.1))).opened)

pub in_turn : (h : History) → AllInOrder none h → OneAfterAnotherWrittenOut h
in_turn h all =
    record {
      starts = λ before since x named host context whole is own starter other o.
          never_none (sym (in_order h before since x whole (Started named host context) is all) ∙ open_now before own starter other o);
      sends = λ before since x named host context offset piece whole is.
          sends_turn before (open_at before) named host context offset piece refl (in_order h before since x whole (Sent named host context offset piece) is all);
      finishes = λ before since x named host context flag whole is.
          finishes_turn before (open_at before) named host context flag refl (in_order h before since x whole (Finished named host context flag) is all);
    }

pub one_host : (h : History) → AllByStarter none h → FromOneHostWrittenOut h
one_host h all before since x host whole (inl (named, context, offset, piece, sent)) own starter other o =
    subst (λ (now : Open). ByStarter now (Sent named host context offset piece)) (open_now before own starter other o)
    (by_starter h before since x whole (Sent named host context offset piece) sent all)
one_host h all before since x host whole (inr (named, context, flag, finished)) own starter other o =
    subst (λ (now : Open). ByStarter now (Finished named host context flag)) (open_now before own starter other o)
    (by_starter h before since x whole (Finished named host context flag) finished all)
