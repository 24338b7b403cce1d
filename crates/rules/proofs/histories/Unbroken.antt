-- All finished transfers at once: the rearranged history is made by moves, and in it each finished transfer is unbroken.
-- Assumes nothing.
use Prim.Native.Nat.{ℕ}
use mathlib.Core.{Path.{◌≡◌, refl, sym, ◌∙◌, ap, subst}, Logic.{inl, inr}, Bool.{Bool, true, false, ◌&&◌, ◌||◌, false≢true}, List.{[], ◌∷◌, ◌++◌, append_assoc}}
use native.Mathlib.Omega.{arith}
use borrow.Author.Tests.{eqb-true, eq-eqb}
use Rattle.rules.specs.{Tests.◌=?◌, Record.Whole, History.{Plays, All, Same, some, up_to, on_from}}
use Rattle.rules.specs.Transfers.{machine, Exchange, History, Kind, Started, Sent, Finished, Ticked, Powered, Other, kind_of}
use Rattle.rules.specs.Sends.{is_send_of, own_sends, others, FinishedIn}
use Rattle.rules.specs.{Moves.{moved, ByMoves, as_it_is, one_more, is_finish_of, its_finish, settle, rearranged, Unbroken}, Demand3.{Sound, AllMoved}}
use Rattle.rules.proofs.{page.Choice.{or_true, and_true}, histories.Joining.{all_left, all_right, same_refl, same_trans}, page.Possible.sound_next, page.Split.number, histories.Gate.{Remains, Unstopped, inwards}}
use Rattle.rules.proofs.{histories.KindOf.NoStart, histories.Inside.Within, histories.Moved.{move, all_by_moves, between_within, Moving, as_tick, as_other, as_power, free_of, all_no_finish}}

-- the first Finish of the module's transfer with the context c in r
record Split (own c : ℕ) (r : History) : Type 0 where
  finish : Exchange
  since : History
  finisher : ℕ
  flag : ℕ
  finishes : kind_of finish ≡ Finished own finisher c flag
  from : on_from (its_finish own c) r ≡ finish ∷ since
  whole : r ≡ up_to (its_finish own c) r ++ (finish ∷ since)

finish_of_law : (own c : ℕ) (k : Kind) → is_finish_of own c k ≡ true → (host : ℕ) × (flag : ℕ) × (k ≡ Finished own host c flag)
finish_of_law own c (Started named host context) e = absurd (false≢true e)
finish_of_law own c (Sent named host context offset piece) e = absurd (false≢true e)
finish_of_law own c (Finished named host context flag) e =
    let q = and_true (named =? own) (context =? c) e in
    (host, flag, ap (λ (n : ℕ). Finished n host context flag) (eqb-true named own q.0) ∙ ap (λ (z : ℕ). Finished own host z flag) (eqb-true context c q.1))
finish_of_law own c Ticked e = absurd (false≢true e)
finish_of_law own c (Powered named) e = absurd (false≢true e)
finish_of_law own c Other e = absurd (false≢true e)

split_step : (own c : ℕ) (b : Bool) (x : Exchange) (r : History) → its_finish own c x ≡ b → (b || some (its_finish own c) r) ≡ true → (some (its_finish own c) r ≡ true → Split own c r)
    → Split own c (x ∷ r)
split_step own c true x r e s i =
    let q = finish_of_law own c (kind_of x) e in
    record { finish = x; since = r; finisher = q.0; flag = q.1; finishes = q.2; from = rw e; whole = rw e }
split_step own c false x r e s i =
    let q = i s in
    record { finish = q.finish; since = q.since; finisher = q.finisher; flag = q.flag; finishes = q.finishes; from = rw e q.from; whole = rw e (ap (λ (z : History). x ∷ z) q.whole) }

split : (own c : ℕ) (r : History) → some (its_finish own c) r ≡ true → Split own c r
split own c [] s = absurd (false≢true s)
split own c (x ∷ r) s = split_step own c (its_finish own c x) x r refl s (split own c r)

-- a Start whose Finish follows
abbrev found : (x : Exchange) (r : History) (own host c : ℕ) → kind_of x ≡ Started own host c → Split own c r → FinishedIn (x ∷ r)
found x r own host c st q =
    record {
      before = [];
      start = x;
      between = up_to (its_finish own c) r;
      finish = q.finish;
      since = q.since;
      named = own;
      starter = host;
      finisher = q.finisher;
      context = c;
      flag = q.flag;
      whole = ap (λ (z : History). x ∷ z) q.whole;
      starts = st;
      finishes = q.finishes;
    }

settled : (x : Exchange) (r : History) (own host c : ℕ) (st : kind_of x ≡ Started own host c) (s : some (its_finish own c) r ≡ true)
    → moved (found x r own host c st (split own c r s)) ≡ settle (Started own host c) x r
settled x r own host c st s = rw (s, (split own c r s).from)

-- moves under an exchange in front, and moves after moves
abbrev later : (x : Exchange) {k : History} → FinishedIn k → FinishedIn (x ∷ k)
later x f =
    record {
      before = x ∷ f.before;
      start = f.start;
      between = f.between;
      finish = f.finish;
      since = f.since;
      named = f.named;
      starter = f.starter;
      finisher = f.finisher;
      context = f.context;
      flag = f.flag;
      whole = ap (λ (z : History). x ∷ z) f.whole;
      starts = f.starts;
      finishes = f.finishes;
    }

by_cons : (x : Exchange) {h k : History} → ByMoves h k → ByMoves (x ∷ h) (x ∷ k)
by_cons x as_it_is = as_it_is
by_cons x (one_more b f) = one_more (by_cons x b) (later x f)

by_both : {h k l : History} → ByMoves h k → ByMoves k l → ByMoves h l
by_both a as_it_is = a
by_both a (one_more b f) = one_more (by_both a b) f

by_settle : (x : Exchange) (r : History) (k : Kind) → kind_of x ≡ k → ByMoves (x ∷ r) (settle k x r)
by_settle x r (Started own host c) e = go (some (its_finish own c) r) refl
  where
    go : (b : Bool) → some (its_finish own c) r ≡ b → ByMoves (x ∷ r) (settle (Started own host c) x r)
    go true s = subst (ByMoves (x ∷ r)) (settled x r own host c e s) (one_more as_it_is (found x r own host c e (split own c r s)))
    go false s = rw s as_it_is
by_settle x r (Sent named host context offset piece) e = as_it_is
by_settle x r (Finished named host context flag) e = as_it_is
by_settle x r Ticked e = as_it_is
by_settle x r (Powered named) e = as_it_is
by_settle x r Other e = as_it_is

by_moves : (h : History) → ByMoves h (rearranged h)
by_moves [] = as_it_is
by_moves (x ∷ h) = by_both (by_cons x (by_moves h)) (by_settle x (rearranged h) (kind_of x) refl)

-- moves change no answer and no end
same_by_moves : (m : Whole) {h k : History} → ByMoves h k → Sound m → Plays machine m h → All Remains h → Same machine m h k
same_by_moves m as_it_is w p r = same_refl machine p
same_by_moves m (one_more {k = k} b f) w p r =
    let i = same_by_moves m b w p r in
    same_trans machine i (move m k w i.plays (all_by_moves Remains b r) f)

-- what stands between a Start and its Finish is no Start
own_no_start : (c : ℕ) (k : Kind) → is_send_of c k ≡ true → NoStart k
own_no_start c (Started named host context) e = absurd (false≢true e)
own_no_start c (Sent named host context offset piece) e = tt
own_no_start c (Finished named host context flag) e = tt
own_no_start c Ticked e = tt
own_no_start c (Powered named) e = tt
own_no_start c Other e = tt

moving_no_start : (own : ℕ) (k : Kind) → Moving own k → NoStart k
moving_no_start own Ticked as_tick = tt
moving_no_start own Other as_other = tt
moving_no_start own (Powered named) (as_power n o) = tt
moving_no_start own (Started named host context) m = elim m [ ]
moving_no_start own (Sent named host context offset piece) m = elim m [ ]
moving_no_start own (Finished named host context flag) m = elim m [ ]

within_no_start : (first : Bool) (c : ℕ) (mid : History) → All Unstopped mid → All (Within first c) mid → All (λ x. NoStart (kind_of x)) mid
within_no_start first c [] u a = tt
within_no_start first c (x ∷ mid) u a = (go a.0, within_no_start first c mid u.1 a.1)
  where
    go : Within first c x → NoStart (kind_of x)
    go (inl q) = own_no_start c (kind_of x) q.0
    go (inr q) = moving_no_start (number first) (kind_of x) (free_of first x u.0 q.1)

-- what is no Start stays where it stands
settle_stays : (x : Exchange) (r : History) (k : Kind) → NoStart k → settle k x r ≡ x ∷ r
settle_stays x r (Started named host c) n = absurd n
settle_stays x r (Sent named host context offset piece) n = refl
settle_stays x r (Finished named host context flag) n = refl
settle_stays x r Ticked n = refl
settle_stays x r (Powered named) n = refl
settle_stays x r Other n = refl

rearranged_stays : (mid tail : History) → All (λ x. NoStart (kind_of x)) mid → rearranged (mid ++ tail) ≡ mid ++ rearranged tail
rearranged_stays [] tail n = refl
rearranged_stays (x ∷ mid) tail n =
    settle_stays x (rearranged (mid ++ tail)) (kind_of x) n.0 ∙ ap (λ (z : History). x ∷ z) (rearranged_stays mid tail n.1)

-- up to the first Finish
module _ (test : Exchange → Bool) (y : Exchange) (post : History) (yes_y : test y ≡ true) where
  up_to_law : (mid : History) → All (λ x. test x ≡ false) mid → up_to test (mid ++ (y ∷ post)) ≡ mid
  up_to_law [] a = rw yes_y
  up_to_law (x ∷ mid) a = rw a.0 (ap (λ (z : History). x ∷ z) (up_to_law mid a.1))

  on_from_law : (mid : History) → All (λ x. test x ≡ false) mid → on_from test (mid ++ (y ∷ post)) ≡ y ∷ post
  on_from_law [] a = rw yes_y
  on_from_law (x ∷ mid) a = rw a.0 (on_from_law mid a.1)

  some_here : (mid : History) → some test (mid ++ (y ∷ post)) ≡ true
  some_here [] = rw yes_y
  some_here (x ∷ mid) = or_true (test x) (some test (mid ++ (y ∷ post))) (some_here mid)

its_finish_law : (own c host flag : ℕ) (y : Exchange) → kind_of y ≡ Finished own host c flag → its_finish own c y ≡ true
its_finish_law own c host flag y e = ap (is_finish_of own c) e ∙ ap (λ (b : Bool). b && c =? c) (eq-eqb own own refl) ∙ eq-eqb c c refl

-- where the first part has no Start, a Start stands in the second
past_part : (a b pre t : History) (x : Exchange) (own host c : ℕ) → All (λ z. NoStart (kind_of z)) a → kind_of x ≡ Started own host c → a ++ b ≡ pre ++ (x ∷ t) → (rest : History) × (b ≡ rest ++ (x ∷ t))
past_part [] b pre t x own host c n st e = (pre, e)
past_part (z ∷ a) b [] t x own host c n st e =
    let same : z ≡ x = cc in
    absurd (subst NoStart (ap kind_of same ∙ st) n.0)
past_part (z ∷ a) b (w ∷ pre) t x own host c n st e =
    let tails : a ++ b ≡ pre ++ (x ∷ t) = cc in
    past_part a b pre t x own host c n.1 st tails

-- what stands unbroken stands so behind an exchange that settles
unbroken_settle : (m : Whole) (y : Exchange) (r : History) {h : History} (f : FinishedIn h) (k : Kind) → kind_of y ≡ k → Sound m → Plays machine m (y ∷ r) → All Remains (y ∷ r) → Unbroken r f
    → Unbroken (settle k y r) f
unbroken_settle m y r f (Started own host c) e w p l u = go (some (its_finish own c) r) refl
  where
    block : History
    block = own_sends f.context f.between ++ (f.finish ∷ u.behind)

    go : (b : Bool) → some (its_finish own c) r ≡ b → Unbroken (settle (Started own host c) y r) f
    go true s =
        let q : Split own c r = split own c r s in
        let mid : History = up_to (its_finish own c) r in
        let ins = between_within m (found y r own host c e q) w p l in
        let there = all_left Unstopped mid (q.finish ∷ q.since) (subst (All Unstopped) q.whole (inwards true m (y ∷ r) w p l).all_unstopped.1) in
        let z = past_part mid (q.finish ∷ q.since) u.ahead block f.start f.named f.starter f.context (within_no_start (own =? 0) c mid there ins) f.starts (sym q.whole ∙ u.stands) in
        record {
          ahead = others c mid ++ (y ∷ (own_sends c mid ++ z.0));
          behind = u.behind;
          stands =
              sym (settled y r own host c e s)
              ∙ ap (λ (t : History). others c mid ++ (y ∷ (own_sends c mid ++ t))) z.1
              ∙ ap (λ (t : History). others c mid ++ (y ∷ t)) (sym (append_assoc (own_sends c mid) z.0 (f.start ∷ block)))
              ∙ sym (append_assoc (others c mid) (y ∷ (own_sends c mid ++ z.0)) (f.start ∷ block));
        }
    go false s = rw s (record { ahead = y ∷ u.ahead; behind = u.behind; stands = ap (λ (t : History). y ∷ t) u.stands })
unbroken_settle m y r f (Sent named host context offset piece) e w p l u = record { ahead = y ∷ u.ahead; behind = u.behind; stands = ap (λ (t : History). y ∷ t) u.stands }
unbroken_settle m y r f (Finished named host context flag) e w p l u = record { ahead = y ∷ u.ahead; behind = u.behind; stands = ap (λ (t : History). y ∷ t) u.stands }
unbroken_settle m y r f Ticked e w p l u = record { ahead = y ∷ u.ahead; behind = u.behind; stands = ap (λ (t : History). y ∷ t) u.stands }
unbroken_settle m y r f (Powered named) e w p l u = record { ahead = y ∷ u.ahead; behind = u.behind; stands = ap (λ (t : History). y ∷ t) u.stands }
unbroken_settle m y r f Other e w p l u = record { ahead = y ∷ u.ahead; behind = u.behind; stands = ap (λ (t : History). y ∷ t) u.stands }

-- the first exchange is the transfer's Start
unbroken_here : (m : Whole) {h : History} (f : FinishedIn h) → f.before ≡ [] → Sound m → Plays machine m h → All Remains h → Unbroken (rearranged h) f
unbroken_here m {h} f none_before w p k =
    record {
      ahead = others c mid;
      behind = rearranged f.since;
      stands =
          ap rearranged whole
          ∙ ap (λ (z : Kind). settle z x r) f.starts
          ∙ sym (settled x r own f.starter c f.starts here)
          ∙ ap (λ (z : History). others c (up_to (its_finish own c) r) ++ (x ∷ (own_sends c (up_to (its_finish own c) r) ++ z))) (sym (split own c r here).from ∙ ap (on_from (its_finish own c)) r_is ∙ on_from_law (its_finish own c) f.finish (rearranged f.since) fin mid clear)
          ∙ ap (λ (z : History). others c z ++ (x ∷ (own_sends c z ++ (f.finish ∷ rearranged f.since)))) (ap (up_to (its_finish own c)) r_is ∙ up_to_law (its_finish own c) f.finish (rearranged f.since) fin mid clear);
    }
  where
    c : ℕ
    c = f.context

    own : ℕ
    own = f.named

    x : Exchange
    x = f.start

    mid : History
    mid = f.between

    whole : h ≡ x ∷ (mid ++ (f.finish ∷ f.since))
    whole = f.whole ∙ ap (λ (z : History). z ++ (x ∷ (mid ++ (f.finish ∷ f.since)))) none_before

    ins : All (Within (f.named =? 0) c) mid
    ins = between_within m f w p k

    there : All Unstopped mid
    there = all_left Unstopped mid (f.finish ∷ f.since)
        (all_right Unstopped f.before (x ∷ (mid ++ (f.finish ∷ f.since))) (subst (All Unstopped) f.whole (inwards true m h w p k).all_unstopped)).1

    clear : All (λ z. its_finish own c z ≡ false) mid
    clear = all_no_finish (f.named =? 0) own c mid there ins

    fin : its_finish own c f.finish ≡ true
    fin = its_finish_law own c f.finisher f.flag f.finish f.finishes

    r : History
    r = rearranged (mid ++ (f.finish ∷ f.since))

    r_is : r ≡ mid ++ (f.finish ∷ rearranged f.since)
    r_is =
        rearranged_stays mid (f.finish ∷ f.since) (within_no_start (f.named =? 0) c mid there ins)
        ∙ ap (λ (z : Kind). mid ++ settle z f.finish (rearranged f.since)) f.finishes

    here : some (its_finish own c) r ≡ true
    here = ap (some (its_finish own c)) r_is ∙ some_here (its_finish own c) f.finish (rearranged f.since) fin mid

-- Every finished transfer stands unbroken in the rearranged history.
unbroken : (m : Whole) (h before : History) (f : FinishedIn h) → f.before ≡ before → Sound m → Plays machine m h → All Remains h → Unbroken (rearranged h) f
unbroken m h [] f b w p k = unbroken_here m f b w p k
unbroken m [] (y ∷ before) f b w p k =
    let z : [] ≡ y ∷ (before ++ (f.start ∷ (f.between ++ (f.finish ∷ f.since)))) = f.whole ∙ ap (λ (t : History). t ++ (f.start ∷ (f.between ++ (f.finish ∷ f.since)))) b in
    let o : ◌≡◌ {A = ℕ} 0 1 = cc in absurd (omega arith)
unbroken m (x ∷ h) (y ∷ before) f b w p k =
    let whole : x ∷ h ≡ y ∷ (before ++ (f.start ∷ (f.between ++ (f.finish ∷ f.since)))) = f.whole ∙ ap (λ (t : History). t ++ (f.start ∷ (f.between ++ (f.finish ∷ f.since)))) b in
    let tail : h ≡ before ++ (f.start ∷ (f.between ++ (f.finish ∷ f.since))) = cc in
    let g : FinishedIn h = record { before = before; start = f.start; between = f.between; finish = f.finish; since = f.since; named = f.named; starter = f.starter; finisher = f.finisher; context = f.context; flag = f.flag; whole = tail; starts = f.starts; finishes = f.finishes } in
    let u : Whole = machine.next m x.event in
    let s = sound_next m x.event w in
    let i = same_by_moves u (by_moves h) s p.1 k.1 in
    let v : Unbroken (rearranged h) g = unbroken u h before g refl s p.1 k.1 in
    unbroken_settle m x (rearranged h) f (kind_of x) refl w (p.0, i.plays) (k.0, all_by_moves Remains (by_moves h) k.1) (record { ahead = v.ahead; behind = v.behind; stands = v.stands })

-- All finished transfers at once, from every sound cabinet.
pub all_moved : (m : Whole) (h : History) → Sound m → Plays machine m h → All Remains h → AllMoved m h
all_moved m h w p k = record { by_moves = by_moves h; unbroken = λ f. unbroken m h f.before f refl w p k; same = same_by_moves m (by_moves h) w p k }
