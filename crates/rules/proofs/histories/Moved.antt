-- The move, from every sound cabinet, for every finished transfer of what remains; and for all of them at once.
-- Assumes nothing.
use Prim.Native.Nat.{ℕ}
use mathlib.Core.{Path.{◌≡◌, refl, sym, ◌∙◌, ap, subst}, Logic.{inl, inr}, Bool.{Bool, true, false, not, false≢true}, List.{[], ◌∷◌, ◌++◌}}
use Rattle.rules.specs.{Tests.{◌=?◌}, Transfer.{GetFwInfo, Start, Send, Finish, Query}, Record.Whole, History.{Plays, end, All, Same}}
use Rattle.rules.specs.Transfers.{Answer, machine, Exchange, History, Kind, Started, Sent, Finished, Ticked, Powered, Other, kind_of}
use Rattle.rules.specs.{Sends.{is_send_of, own_send, own_sends, others, FinishedIn}, Moves.{moved, ByMoves, as_it_is, one_more, is_finish_of, its_finish}}
use Rattle.rules.specs.{Demand3.{Sound, Move}}
use Rattle.rules.proofs.histories.Joining.{all_left, all_right, all_join, all_only, all_except, plays_left, plays_right, same_under}
use Rattle.rules.proofs.{page.Split.{Seen, seen_from, number, Doing, Transfers, Others, Powers, Reads, Act, Mine, Theirs, Ticks, act, inner, doing_kind, act_kind}, page.Through.{kind_act, side_named}}
use Rattle.rules.proofs.{page.Possible.{Fine, sound_fine}, histories.Gate.{Remains, Unstopped, module_there, Inward, inwards, fine_end, same_outward}, histories.Swap.{FreeDoing, BesideDoing, FreeAct, Free}}
use Rattle.rules.proofs.{histories.KindOf.{started_named, other_number}, histories.Inside.{Within, Begun, begun, inside, move_here}}

-- what holds of every exchange holds of every exchange after a move
pub all_move : (P : Exchange → Type 0) {h : History} (f : FinishedIn h) → All P h → All P (moved f)
all_move P f a =
    all_join P f.before (others f.context f.between ++ (f.start ∷ (own_sends f.context f.between ++ last))) (all_left P f.before tail b)
    (all_join P (others f.context f.between) (f.start ∷ (own_sends f.context f.between ++ last)) (all_except P (own_send f.context) f.between mid)
    (c.0, all_join P (own_sends f.context f.between) last (all_only P (own_send f.context) f.between mid) (all_right P f.between last c.1)))
  where
    last : History
    last = f.finish ∷ f.since

    tail : History
    tail = f.start ∷ (f.between ++ last)

    b : All P (f.before ++ tail)
    b = subst (All P) f.whole a

    c : All P tail
    c = all_right P f.before tail b

    mid : All P f.between
    mid = all_left P f.between last c.1

pub all_by_moves : (P : Exchange → Type 0) {h k : History} → ByMoves h k → All P h → All P k
all_by_moves P as_it_is a = a
all_by_moves P (one_more b f) a = all_move P f (all_by_moves P b a)

-- A transfer of what remains has a module that there is; from which it is seen.
module _ {h : History} (f : FinishedIn h) (u : All Unstopped h) where
  side : Bool
  side = f.named =? 0

  starts_there : Unstopped f.start
  starts_there = (all_right Unstopped f.before (f.start ∷ (f.between ++ (f.finish ∷ f.since))) (subst (All Unstopped) f.whole u)).0

  pub its_module : number (f.named =? 0) ≡ f.named
  its_module = side_named f.named (started_named f.start f.named f.starter f.context f.starts (module_there f.start starts_there))

  pub starts_seen : kind_of f.start ≡ Started (number (f.named =? 0)) f.starter f.context
  starts_seen = f.starts ∙ ap (λ (n : ℕ). Started n f.starter f.context) (sym its_module)

  pub finishes_seen : kind_of f.finish ≡ Finished (number (f.named =? 0)) f.finisher f.context f.flag
  finishes_seen = f.finishes ∙ ap (λ (n : ℕ). Finished n f.finisher f.context f.flag) (sym its_module)

-- The move.
pub move : (w : Whole) (h : History) → Sound w → Plays machine w h → All Remains h → Move w h
move w h s p k f =
    same_outward first w h (moved f) s p k (all_move Unstopped f into.all_unstopped) (subst (λ (z : History). Same (inner first) (seen_from first w) z (moved f)) (sym f.whole) i)
  where
    first : Bool
    first = f.named =? 0

    into : Inward first w h
    into = inwards first w h s p k

    tail : History
    tail = f.start ∷ (f.between ++ (f.finish ∷ f.since))

    from : Seen
    from = seen_from first w

    q : Plays (inner first) from (f.before ++ tail)
    q = subst (λ (z : History). Plays (inner first) from z) f.whole into.plays

    i : Same (inner first) from (f.before ++ tail) (moved f)
    i = same_under (inner first) from f.before (plays_left (inner first) from f.before tail q)
        (move_here first (end (inner first) from f.before) f.start f.finish f.between f.since f.starter f.finisher f.context f.flag
        (fine_end first from f.before (sound_fine first w s)) (starts_seen f into.all_unstopped) (finishes_seen f into.all_unstopped)
        (all_right Remains f.before tail (subst (All Remains) f.whole k)) (all_right Unstopped f.before tail (subst (All Unstopped) f.whole into.all_unstopped))
        (plays_right (inner first) from f.before tail q))

-- what stands between a Start and its Finish
pub between_within : (w : Whole) {h : History} (f : FinishedIn h) → Sound w → Plays machine w h → All Remains h → All (Within (f.named =? 0) f.context) f.between
between_within w {h} f s p k =
    inside first f.context f.finisher f.flag ((inner first).next u f.start.event) f.between f.finish
    (fine_end first u (f.start ∷ []) v) b.phase b.ctx
    (plays_left (inner first) ((inner first).next u f.start.event) f.between last r.1) (all_left Remains f.between last (all_right Remains f.before tail (subst (All Remains) f.whole k)).1)
    (all_left Unstopped f.between last there.1) (all_right Unstopped f.between last there.1).0
    (finishes_seen f into.all_unstopped) (plays_right (inner first) ((inner first).next u f.start.event) f.between last r.1).0
  where
    first : Bool
    first = f.named =? 0

    into : Inward first w h
    into = inwards first w h s p k

    last : History
    last = f.finish ∷ f.since

    tail : History
    tail = f.start ∷ (f.between ++ last)

    there : All Unstopped tail
    there = all_right Unstopped f.before tail (subst (All Unstopped) f.whole into.all_unstopped)

    u : Seen
    u = end (inner first) (seen_from first w) f.before

    v : Fine u
    v = fine_end first (seen_from first w) f.before (sound_fine first w s)

    r : Plays (inner first) u tail
    r = plays_right (inner first) (seen_from first w) f.before tail (subst (λ (z : History). Plays (inner first) (seen_from first w) z) f.whole into.plays)

    b : Begun first u f.start f.starter f.context
    b = begun first u f.start f.starter f.context v there.0 (starts_seen f into.all_unstopped) r.0

-- what may go before is no Start, no Send and no Finish, and no power cycle of the transfer's own module
pub data Moving (own : ℕ) : Kind → Type 0 where
  as_tick : Moving own Ticked
  as_other : Moving own Other
  as_power : (named : ℕ) → (named ≡ own → ⊥) → Moving own (Powered named)

mine_moving : (own : ℕ) (d : Doing) (got : Answer) → FreeDoing d → Moving own (doing_kind own d got)
mine_moving own (Transfers host a b GetFwInfo n answer) got r = as_other
mine_moving own (Transfers host a b Start n answer) got r = absurd r
mine_moving own (Transfers host a b (Send context offset size piece) n answer) got r = absurd r
mine_moving own (Transfers host a b (Finish flag reserved context) n answer) got r = absurd r
mine_moving own (Transfers host a b (Query context) n answer) got r = absurd r
mine_moving own (Others a b x n answer) got r = as_other
mine_moving own Powers got r = absurd r
mine_moving own (Reads new) got r = as_other

theirs_moving : (own other : ℕ) (d : Doing) (got : Answer) → (other ≡ own → ⊥) → BesideDoing d → Moving own (doing_kind other d got)
theirs_moving own other (Transfers host a b GetFwInfo n answer) got o r = as_other
theirs_moving own other (Transfers host a b Start n answer) got o r = absurd r
theirs_moving own other (Transfers host a b (Send context offset size piece) n answer) got o r = absurd r
theirs_moving own other (Transfers host a b (Finish flag reserved context) n answer) got o r = absurd r
theirs_moving own other (Transfers host a b (Query context) n answer) got o r = as_other
theirs_moving own other (Others a b x n answer) got o r = as_other
theirs_moving own other Powers got o r = as_power other o
theirs_moving own other (Reads new) got o r = as_other

free_kind : (first : Bool) (f : Act) (got : Answer) → FreeAct f → Moving (number first) (act_kind first f got)
free_kind first (Mine d) got r = mine_moving (number first) d got r
free_kind first (Theirs d) got r = theirs_moving (number first) (number (not first)) d got (other_number first) r
free_kind first Ticks got r = as_tick

pub free_of : (first : Bool) (x : Exchange) → Unstopped x → Free first x → Moving (number first) (kind_of x)
unfolding Free
free_of first x u f = subst (Moving (number first)) (sym (kind_act first x (module_there x u))) (free_kind first (act first x.event) x.got f)

-- none of it is a Finish
pub send_no_finish : (own c : ℕ) (k : Kind) → is_send_of c k ≡ true → is_finish_of own c k ≡ false
send_no_finish own c (Started named host context) e = refl
send_no_finish own c (Sent named host context offset piece) e = refl
send_no_finish own c (Finished named host context flag) e = absurd (false≢true e)
send_no_finish own c Ticked e = refl
send_no_finish own c (Powered named) e = refl
send_no_finish own c Other e = refl

moving_no_finish : (own n c : ℕ) (k : Kind) → Moving own k → is_finish_of n c k ≡ false
moving_no_finish own n c Ticked as_tick = refl
moving_no_finish own n c Other as_other = refl
moving_no_finish own n c (Powered named) (as_power k o) = refl
moving_no_finish own n c (Started named host context) m = elim m [ ]
moving_no_finish own n c (Sent named host context offset piece) m = elim m [ ]
moving_no_finish own n c (Finished named host context flag) m = elim m [ ]

no_finish : (first : Bool) (n c : ℕ) (x : Exchange) → Unstopped x → Within first c x → its_finish n c x ≡ false
no_finish first n c x u (inl q) = send_no_finish n c (kind_of x) q.0
no_finish first n c x u (inr q) = moving_no_finish (number first) n c (kind_of x) (free_of first x u q.1)

pub all_no_finish : (first : Bool) (n c : ℕ) (mid : History) → All Unstopped mid → All (Within first c) mid → All (λ x. its_finish n c x ≡ false) mid
all_no_finish first n c [] u a = tt
all_no_finish first n c (x ∷ mid) u a = (no_finish first n c x u.0 a.0, all_no_finish first n c mid u.1 a.1)
