-- At a transfer's Finish the received bytes are its own pieces, all from one host; and which Start and Sends an open transfer has.
-- Assumes nothing.
use Prim.Native.Nat.{ℕ}
use mathlib.Core.{Path.{◌≡◌, refl, sym, ◌∙◌, ap, subst}, Logic.{◌⊎◌, inl, inr}, Bool.{Bool, true, false, false≢true}, List.{[], List, ◌∷◌, ◌++◌, append_assoc, append-nil}}
use native.Mathlib.Omega.{arith}
use borrow.Author.Tests.{eq-eqb, ne_eqb}
use Rattle.std.specs.Prelude.{if◌then◌else◌}
use Rattle.rules.specs.{Tests.{◌=?◌}, Record.Whole, History.{Plays, end, All, keep}}
use Rattle.rules.specs.Transfers.{machine, Exchange, History, Kind, Started, Sent, Finished, Ticked, Powered, Other, kind_of, Open, none, by, bytes_so_far, after_power, open_after, InOrder, AllInOrder, ByStarter, AllByStarter, open_next}
use Rattle.rules.specs.{Sends.{is_send_of, own_sends, piece_of, pieces, SentBy, FinishedIn}, Demand3.{Sound, Received, OwnPieces}}
use Rattle.rules.proofs.{histories.Joining.{all_left, all_right, plays_left, plays_right, leads_join, throughout_left, throughout_right}, page.Split.{seen_from, number}, page.Possible.{sound_fine, sound_through}}
use Rattle.rules.proofs.{histories.Gate.{Remains, Unstopped, unstopped, inwards, sound_end}, histories.Inside.{Within, finish_at}, histories.Moved.{between_within, its_module, finishes_seen, Moving, as_tick, as_other, as_power, free_of}}
use Rattle.rules.proofs.histories.Order.{open_at_end, Fits, to_side, Opens, opens, fits_at}

-- an own Send adds its piece; what may move adds nothing, and closes nothing
own_opens : (own host c : ℕ) (bytes : List ℕ) (k : Kind) → is_send_of c k ≡ true → open_after (by own host c bytes) k ≡ by own host c (bytes ++ piece_of k)
own_opens own host c bytes (Started n j d) e = absurd (false≢true e)
own_opens own host c bytes (Sent n j d offset piece) e = refl
own_opens own host c bytes (Finished n j d flag) e = absurd (false≢true e)
own_opens own host c bytes Ticked e = absurd (false≢true e)
own_opens own host c bytes (Powered n) e = absurd (false≢true e)
own_opens own host c bytes Other e = absurd (false≢true e)

own_sender : (own host c : ℕ) (bytes : List ℕ) (k : Kind) → is_send_of c k ≡ true → ByStarter (by own host c bytes) k → SentBy host k
own_sender own host c bytes (Started n j d) e t = absurd (false≢true e)
own_sender own host c bytes (Sent n j d offset piece) e t = t
own_sender own host c bytes (Finished n j d flag) e t = absurd (false≢true e)
own_sender own host c bytes Ticked e t = absurd (false≢true e)
own_sender own host c bytes (Powered n) e t = absurd (false≢true e)
own_sender own host c bytes Other e t = absurd (false≢true e)

moving_opens : (own host c : ℕ) (bytes : List ℕ) (k : Kind) → Moving own k → open_after (by own host c bytes) k ≡ by own host c bytes
moving_opens own host c bytes Ticked as_tick = refl
moving_opens own host c bytes Other as_other = refl
moving_opens own host c bytes (Powered named) (as_power n o) = ap (λ (b : Bool). if b then none else by own host c bytes) (ne_eqb named own o)
moving_opens own host c bytes (Started named _ context) m = elim m [ ]
moving_opens own host c bytes (Sent named _ context offset piece) m = elim m [ ]
moving_opens own host c bytes (Finished named _ context flag) m = elim m [ ]

-- what is open after what stands between
between_step : (first : Bool) (host c : ℕ) (bytes : List ℕ) (x : Exchange) (mid : History) → Unstopped x → Within first c x
    → ((b : List ℕ) → open_at_end (by (number first) host c b) mid ≡ by (number first) host c (b ++ pieces (own_sends c mid)))
    → open_at_end (by (number first) host c bytes) (x ∷ mid) ≡ by (number first) host c (bytes ++ pieces (own_sends c (x ∷ mid)))
between_step first host c bytes x mid u (inl q) i =
    ap (λ (o : Open). open_at_end o mid) (own_opens (number first) host c bytes (kind_of x) q.0)
    ∙ i (bytes ++ piece_of (kind_of x))
    ∙ ap (by (number first) host c) (append_assoc bytes (piece_of (kind_of x)) (pieces (own_sends c mid)))
    ∙ ap (λ (b : Bool). by (number first) host c (bytes ++ pieces (keep b x (own_sends c mid)))) (sym q.0)
between_step first host c bytes x mid u (inr q) i =
    ap (λ (o : Open). open_at_end o mid) (moving_opens (number first) host c bytes (kind_of x) (free_of first x u q.1))
    ∙ i bytes
    ∙ ap (λ (b : Bool). by (number first) host c (bytes ++ pieces (keep b x (own_sends c mid)))) (sym q.0)

open_between : (first : Bool) (host c : ℕ) (mid : History) → All Unstopped mid → All (Within first c) mid → (bytes : List ℕ)
    → open_at_end (by (number first) host c bytes) mid ≡ by (number first) host c (bytes ++ pieces (own_sends c mid))
open_between first host c [] u a bytes = ap (by (number first) host c) (sym (append-nil bytes))
open_between first host c (x ∷ mid) u a bytes = between_step first host c bytes x mid u.0 a.0 (open_between first host c mid u.1 a.1)

-- every own Send there is by the host of the Start
sender_step : (first : Bool) (host c : ℕ) (bytes : List ℕ) (x : Exchange) (mid : History) → Unstopped x → Within first c x → AllByStarter (by (number first) host c bytes) (x ∷ mid)
    → ((b : List ℕ) → AllByStarter (by (number first) host c b) mid → All (λ z. SentBy host (kind_of z)) (own_sends c mid))
    → All (λ z. SentBy host (kind_of z)) (own_sends c (x ∷ mid))
sender_step first host c bytes x mid u (inl q) t i =
    rw q.0 (own_sender (number first) host c bytes (kind_of x) q.0 t.0, i (bytes ++ piece_of (kind_of x)) (subst (λ (o : Open). AllByStarter o mid) (own_opens (number first) host c bytes (kind_of x) q.0) t.1))
sender_step first host c bytes x mid u (inr q) t i =
    rw q.0 (i bytes (subst (λ (o : Open). AllByStarter o mid) (moving_opens (number first) host c bytes (kind_of x) (free_of first x u q.1)) t.1))

senders : (first : Bool) (host c : ℕ) (mid : History) → All Unstopped mid → All (Within first c) mid → (bytes : List ℕ) → AllByStarter (by (number first) host c bytes) mid
    → All (λ z. SentBy host (kind_of z)) (own_sends c mid)
senders first host c [] u a bytes t = tt
senders first host c (x ∷ mid) u a bytes t = sender_step first host c bytes x mid u.0 a.0 t (senders first host c mid u.1 a.1)

module _ (w : Whole) (h : History) (f : FinishedIn h) (sound : Sound w) (fresh : Fits none w) (p : Plays machine w h) (k : All Remains h) where
  pre : History
  pre = f.before ++ (f.start ∷ f.between)

  last : History
  last = f.finish ∷ f.since

  whole : h ≡ pre ++ last
  unfolding pre last
  whole = f.whole ∙ sym (append_assoc f.before (f.start ∷ f.between) last)

  all_there : All Unstopped h
  all_there = (inwards true w h sound p k).all_unstopped

  between_there : All Unstopped f.between
  between_there =
      all_left Unstopped f.between (f.finish ∷ f.since)
      (all_right Unstopped f.before (f.start ∷ (f.between ++ (f.finish ∷ f.since))) (subst (All Unstopped) f.whole all_there)).1

  ins : All (Within (f.named =? 0) f.context) f.between
  ins = between_within w f sound p k

  start_is : open_after (open_at_end none f.before) (kind_of f.start) ≡ by (number (f.named =? 0)) f.starter f.context []
  start_is = ap (open_after (open_at_end none f.before)) f.starts ∙ ap (λ (n : ℕ). by n f.starter f.context []) (sym (its_module f all_there))

  open_is : open_at_end none pre ≡ by (number (f.named =? 0)) f.starter f.context (pieces (own_sends f.context f.between))
  unfolding pre
  open_is =
      leads_join open_next none f.before (f.start ∷ f.between)
      ∙ ap (λ (o : Open). open_at_end o f.between) start_is
      ∙ open_between (f.named =? 0) f.starter f.context f.between between_there ins []

  at_pre : Plays machine w (pre ++ last)
  at_pre = subst (λ (z : History). Plays machine w z) whole p

  -- what is open at the Finish
  opened_there : Opens (f.named =? 0) (open_at_end none pre) (seen_from (f.named =? 0) (end machine w pre))
  unfolding pre last
  opened_there =
      let wp : Whole = end machine w pre in
      let sp : Sound wp = sound_end w pre sound in
      let rest = all_right Remains pre last (subst (All Remains) whole k) in
      let played = plays_right machine w pre last at_pre in
      let u = unstopped wp f.finish sp played.0 rest.0 in
      let t = sound_through (f.named =? 0) wp f.finish.event sp u in
      opens (f.named =? 0) (open_at_end none pre) (seen_from (f.named =? 0) wp) (sound_fine (f.named =? 0) wp sp)
      (to_side (f.named =? 0) (open_at_end none pre) wp (fits_at none w pre sound fresh (plays_left machine w pre last at_pre) (all_left Remains pre last (subst (All Remains) whole k))))
      (finish_at (f.named =? 0) (seen_from (f.named =? 0) wp) f.finish f.finisher f.context f.flag u (finishes_seen f all_there) (sym t.answers_as ∙ played.0)).at

  -- The received bytes are its own pieces, whoever called.
  pub received : Received w f
  unfolding pre
  received =
      let o = opened_there in
      let same : by o.named o.host o.context o.bytes ≡ by (number (f.named =? 0)) f.starter f.context (pieces (own_sends f.context f.between)) = sym o.open_is ∙ open_is in
      let bytes : o.bytes ≡ pieces (own_sends f.context f.between) = ap bytes_so_far same in
      o.holding.held ∙ bytes

  -- Each of its own Sends, and its Finish, is by the host of its Start, where each transfer is from one host.
  pub own_pieces : Received w f → AllByStarter none h → OwnPieces w f
  unfolding pre last
  own_pieces r t =
      record {
        received = r;
        one_sender =
            senders (f.named =? 0) f.starter f.context f.between between_there ins []
            (subst (λ (o : Open). AllByStarter o f.between) start_is
            (throughout_left open_next (λ o x. ByStarter o (kind_of x)) (open_after (open_at_end none f.before) (kind_of f.start)) f.between last
            (throughout_right open_next (λ o x. ByStarter o (kind_of x)) none f.before (f.start ∷ (f.between ++ last)) (subst (λ (z : History). AllByStarter none z) f.whole t)).1));
        one_finisher =
            subst (λ (o : Open). ByStarter o (Finished f.named f.finisher f.context f.flag)) open_is
            (subst (λ (z : Kind). ByStarter (open_at_end none pre) z) f.finishes (throughout_right open_next (λ o x. ByStarter o (kind_of x)) none pre last (subst (λ (z : History). AllByStarter none z) whole t)).0);
      }

-- An open transfer has a Start, and its bytes are those of its own Sends since.
pub record Opened (h : History) (named host context : ℕ) (bytes : List ℕ) : Type 0 where
  pub before : History
  pub start : Exchange
  pub between : History
  pub whole : h ≡ before ++ (start ∷ between)
  pub starts : kind_of start ≡ Started named host context
  pub sent : bytes ≡ pieces (own_sends context between)

-- either it was open before h, with the first of the bytes, or h opened it
Still : Open → History → (named host context : ℕ) (bytes : List ℕ) → Type 0
Still o h named host context bytes = (first : List ℕ) × (o ≡ by named host context first) × (bytes ≡ first ++ pieces (own_sends context h))

-- what is open after a power cycle was open before it
abbrev IsOpen : Open → Type 0
IsOpen none = ⊥
IsOpen (by named host context bytes) = Unit {0}

powered_open : (n : ℕ) (o now : Open) → after_power n o ≡ now → IsOpen now → o ≡ now
powered_open n none now e i = e
powered_open n (by own host context bytes) now e i = go (n =? own) refl
  where
    go : (b : Bool) → (n =? own) ≡ b → by own host context bytes ≡ now
    go true z = absurd (subst IsOpen (sym e ∙ ap (λ (b : Bool). if b then none else by own host context bytes) z) i)
    go false z = sym (ap (λ (b : Bool). if b then none else by own host context bytes) z) ∙ e

opened_step : (o : Open) (x : Exchange) (h : History) (named host context : ℕ) (bytes : List ℕ) (k : Kind) → kind_of x ≡ k → InOrder o k
    → Still (open_after o k) h named host context bytes → Still o (x ∷ h) named host context bytes ⊎ Opened (x ∷ h) named host context bytes
unfolding Still
opened_step o x h named host context bytes (Started n j d) e t s =
    let same : by n j d [] ≡ by named host context s.0 = s.1 in
    let modules : n ≡ named = cc in
    let hosts : j ≡ host = cc in
    let contexts : d ≡ context = cc in
    let empty : s.0 ≡ [] = cc in
    inr (record {
      before = [];
      start = x;
      between = h;
      whole = refl;
      starts = e ∙ ap (λ (z : ℕ). Started z j d) modules ∙ ap (λ (z : ℕ). Started named z d) hosts ∙ ap (Started named host) contexts;
      sent = s.2 ∙ ap (λ (z : List ℕ). z ++ pieces (own_sends context h)) empty;
    })
opened_step none x h named host context bytes (Sent n j d offset piece) e t s = absurd t.0
opened_step (by own starter c sofar) x h named host context bytes (Sent n j d offset piece) e t s =
    let same : by own starter c (sofar ++ piece) ≡ by named host context s.0 = s.1 in
    let modules : own ≡ named = cc in
    let hosts : starter ≡ host = cc in
    let contexts : c ≡ context = cc in
    let firsts : s.0 ≡ sofar ++ piece = cc in
    inl (
      sofar,
      ap (λ (z : ℕ). by z starter c sofar) modules ∙ ap (λ (z : ℕ). by named z c sofar) hosts ∙ ap (λ (z : ℕ). by named host z sofar) contexts,
      s.2
          ∙ ap (λ (z : List ℕ). z ++ pieces (own_sends context h)) firsts
          ∙ append_assoc sofar piece (pieces (own_sends context h))
          ∙ ap (λ (z : Kind). sofar ++ (piece_of z ++ pieces (own_sends context h))) (sym e)
          ∙ ap (λ (b : Bool). sofar ++ pieces (keep b x (own_sends context h))) (sym (ap (is_send_of context) e ∙ eq-eqb d context (t.0.1 ∙ contexts))),
    )
opened_step o x h named host context bytes (Finished n j d flag) e t s =
    let same : none ≡ by named host context s.0 = s.1 in let z : ◌≡◌ {A = ℕ} 0 1 = cc in absurd (omega arith)
opened_step o x h named host context bytes Ticked e t s = inl (s.0, s.1, s.2 ∙ ap (λ (b : Bool). s.0 ++ pieces (keep b x (own_sends context h))) (sym (ap (is_send_of context) e)))
opened_step o x h named host context bytes (Powered n) e t s =
    inl (s.0, powered_open n o (by named host context s.0) s.1 tt, s.2 ∙ ap (λ (b : Bool). s.0 ++ pieces (keep b x (own_sends context h))) (sym (ap (is_send_of context) e)))
opened_step o x h named host context bytes Other e t s = inl (s.0, s.1, s.2 ∙ ap (λ (b : Bool). s.0 ++ pieces (keep b x (own_sends context h))) (sym (ap (is_send_of context) e)))

opened_from : (o : Open) (h : History) (named host context : ℕ) (bytes : List ℕ) → AllInOrder o h → open_at_end o h ≡ by named host context bytes
    → Still o h named host context bytes ⊎ Opened h named host context bytes
unfolding Still
opened_from o [] named host context bytes t e = inl (bytes, e, sym (append-nil bytes))
opened_from o (x ∷ h) named host context bytes t e = go (opened_from (open_after o (kind_of x)) h named host context bytes t.1 e)
  where
    go : Still (open_after o (kind_of x)) h named host context bytes ⊎ Opened h named host context bytes → Still o (x ∷ h) named host context bytes ⊎ Opened (x ∷ h) named host context bytes
    go (inl s) = opened_step o x h named host context bytes (kind_of x) refl t.0 s
    go (inr p) = inr (record { before = x ∷ p.before; start = p.start; between = p.between; whole = ap (λ (z : History). x ∷ z) p.whole; starts = p.starts; sent = p.sent })

pub opened : (h : History) (named host context : ℕ) (bytes : List ℕ) → AllInOrder none h → open_at_end none h ≡ by named host context bytes → Opened h named host context bytes
unfolding Still
opened h named host context bytes t e = go (opened_from none h named host context bytes t e)
  where
    go : Still none h named host context bytes ⊎ Opened h named host context bytes → Opened h named host context bytes
    go (inl s) = let same : none ≡ by named host context s.0 = s.1 in let z : ◌≡◌ {A = ℕ} 0 1 = cc in absurd (omega arith)
    go (inr p) = p
