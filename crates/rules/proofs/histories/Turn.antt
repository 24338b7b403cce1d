-- Each from one host: with honest hosts every Send and every Finish of the open transfer is made by the host that started it.
-- Assumes nothing.
use Prim.Native.Nat.{ℕ, ◌≤◌}
use mathlib.Core.{Path.{◌≡◌, refl, sym, ◌∙◌, subst}, Logic.{inl, inr}, List.{[], List, ◌∷◌}}
use native.Mathlib.Omega.{arith}
use Rattle.rules.specs.{Tests.{◌=?◌}, Record.Whole, History.{Plays, All}}
use Rattle.rules.specs.Transfers.{machine, Exchange, History, Kind, Started, Sent, Finished, Ticked, Powered, Other, kind_of, Open, none, by, with_piece, after_power, open_after, ContextIs, InOrder, StarterIs, ByStarter, AllByStarter}
use Rattle.rules.specs.{Hosts.{AnsweredTo, HonestAfter}, Demand3.Sound}
use Rattle.rules.proofs.{page.Choice.if_both, page.Possible.sound_next, histories.Gate.Remains, histories.KindOf.NoStart, histories.Order.{Fits, UsesKind, goes, StartedAt, started_at}}

-- the open transfer's context was answered to its host alone
abbrev Sole : History → Open → Type 0
Sole past none = Unit {0}
Sole past (by named host context bytes) = (j : ℕ) → AnsweredTo j context past → j ≡ host

-- what is known of the hosts: that, and no context answered is above the number given out
pub record Hosts (past : History) (o : Open) (w : Whole) : Type 0 where
  pub sole : Sole past o
  pub below : (host context : ℕ) → AnsweredTo host context past → context ≤ w.cabinet.contexts

pub hosts_fresh : (w : Whole) → Hosts [] none w
hosts_fresh w = record { sole = tt; below = λ host context m. absurd m }

-- an exchange that is no Start adds no Start
older : (past : History) (x : Exchange) (k : Kind) (host context : ℕ) → kind_of x ≡ k → NoStart k → AnsweredTo host context (x ∷ past) → AnsweredTo host context past
older past x k host context e n (inl q) = absurd (subst NoStart (sym e ∙ q.1) n)
older past x k host context e n (inr m) = m

sole_older : (past : History) (x : Exchange) (k : Kind) (o : Open) → kind_of x ≡ k → NoStart k → Sole past o → Sole (x ∷ past) o
sole_older past x k none e n s = tt
sole_older past x k (by named host context bytes) e n s = λ j m. s j (older past x k j context e n m)

add : (past : History) (x : Exchange) (k : Kind) (o o' : Open) (w u : Whole) → kind_of x ≡ k → NoStart k → Hosts past o w → Sole past o' → u.cabinet.contexts ≡ w.cabinet.contexts → Hosts (x ∷ past) o' u
add past x k o o' w u e n h so g =
    record { sole = sole_older past x k o' e n so; below = λ host context m. rw g (h.below host context (older past x k host context e n m)) }

sole_piece : (past : History) (o : Open) (piece : List ℕ) → Sole past o → Sole past (with_piece o piece)
sole_piece past none piece s = tt
sole_piece past (by named host context bytes) piece s = s

-- its own module's power cycle closes it, and another's leaves it
sole_power : (past : History) (named : ℕ) (o : Open) → Sole past o → Sole past (after_power named o)
sole_power past named none s = tt
sole_power past named (by own host context bytes) s = if_both (Sole past) (named =? own) tt s

-- a Start
hosts_start : (past : History) (x : Exchange) (o : Open) (w u : Whole) (named host context : ℕ) → kind_of x ≡ Started named host context → StartedAt w u named context → Hosts past o w
    → Hosts (x ∷ past) (by named host context []) u
hosts_start past x o w u named host context e b h = record { sole = sole; below = below }
  where
    below : (j c : ℕ) → AnsweredTo j c (x ∷ past) → c ≤ u.cabinet.contexts
    below j c (inl q) = let same : Started q.0 j c ≡ Started named host context = sym q.1 ∙ e in let r : c ≡ context = cc in omega (arith, b.out)
    below j c (inr r) = omega (arith, h.below j c r, b.next_number, b.out)

    sole : (j : ℕ) → AnsweredTo j context (x ∷ past) → j ≡ host
    sole j (inl q) = let same : Started q.0 j context ≡ Started named host context = sym q.1 ∙ e in cc
    sole j (inr r) = absurd (omega (arith, h.below j context r, b.next_number))

-- a host that was answered the open transfer's context is its starter
starter_is : (past : History) (o : Open) (named host context : ℕ) → Sole past o → ContextIs o named context → AnsweredTo host context past → StarterIs o host
starter_is past none named host context s i m = absurd i
starter_is past (by own starter c bytes) named host context s i m = s host (subst (λ (n : ℕ). AnsweredTo host n past) i.1 m)

record Turned (past : History) (x : Exchange) (o : Open) (k : Kind) (u : Whole) : Type 0 where
  turn : ByStarter o k
  hosts : Hosts (x ∷ past) (open_after o k) u

turned : (past : History) (x : Exchange) (o : Open) (w : Whole) (k : Kind) → kind_of x ≡ k → Sound w → machine.answer w x.event ≡ x.got → Remains x → Hosts past o w → InOrder o k → UsesKind past k
    → (NoStart k → (machine.next w x.event).cabinet.contexts ≡ w.cabinet.contexts) → Turned past x o k (machine.next w x.event)
turned past x o w (Started named host context) e sound p r h i u g =
    record { turn = tt; hosts = hosts_start past x o w (machine.next w x.event) named host context e (started_at w x named host context sound e p r) h }
turned past x o w (Sent named host context offset piece) e sound p r h i u g =
    record {
      turn = starter_is past o named host context h.sole i.0 u;
      hosts = add past x (Sent named host context offset piece) o (with_piece o piece) w (machine.next w x.event) e tt h (sole_piece past o piece h.sole) (g tt);
    }
turned past x o w (Finished named host context flag) e sound p r h i u g =
    record { turn = starter_is past o named host context h.sole i u; hosts = add past x (Finished named host context flag) o none w (machine.next w x.event) e tt h tt (g tt) }
turned past x o w Ticked e sound p r h i u g = record { turn = tt; hosts = add past x Ticked o o w (machine.next w x.event) e tt h h.sole (g tt) }
turned past x o w (Powered named) e sound p r h i u g =
    record { turn = tt; hosts = add past x (Powered named) o (after_power named o) w (machine.next w x.event) e tt h (sole_power past named o h.sole) (g tt) }
turned past x o w Other e sound p r h i u g = record { turn = tt; hosts = add past x Other o o w (machine.next w x.event) e tt h h.sole (g tt) }

-- in what remains of an honest history each transfer is from one host
pub one_host : (past : History) (o : Open) (w : Whole) (h : History) → Sound w → Fits o w → Hosts past o w → HonestAfter past h → Plays machine w h → All Remains h → AllByStarter o h
one_host past o w [] s f k u p r = tt
one_host past o w (x ∷ h) s f k u p r =
    let g = goes x o w s f p.0 r.0 in
    let t = turned past x o w (kind_of x) refl s p.0 r.0 k g.order (g.used past u.0) g.same_given in
    (t.turn, one_host (x ∷ past) (open_after o (kind_of x)) (machine.next w x.event) h (sound_next w x.event s) g.fits t.hosts u.1 p.1 r.1)
