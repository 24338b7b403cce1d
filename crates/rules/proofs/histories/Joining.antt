-- Histories joined: what plays, and where it ends. For any machine.
-- Assumes nothing.
use Prim.Native.Nat.{ℕ, ◌+◌}
use native.Mathlib.Omega.{arith}
use mathlib.Core.{Path.{◌≡◌, refl, ◌∙◌, subst}, Bool.{Bool, true, false, not}, List.{[], List, ◌∷◌, ◌++◌}}
use Rattle.rules.specs.History.{Machine, ExchangeOf, total, leads_to, Throughout, Plays, end, history_of, keep, only, except, All, Same, after_exchange}

module _ {X : Type 0} (P : X → Type 0) where
  pub all_left : (h k : List X) → All P (h ++ k) → All P h
  all_left [] k a = tt
  all_left (x ∷ h) k a = (a.0, all_left h k a.1)

  pub all_right : (h k : List X) → All P (h ++ k) → All P k
  all_right [] k a = a
  all_right (x ∷ h) k a = all_right h k a.1

  pub all_join : (h k : List X) → All P h → All P k → All P (h ++ k)
  all_join [] k a b = b
  all_join (x ∷ h) k a b = (a.0, all_join h k a.1 b)

  all_keep : (b : Bool) (x : X) (h : List X) → P x → All P h → All P (keep b x h)
  all_keep true x h a i = (a, i)
  all_keep false x h a i = i

  pub all_only : (test : X → Bool) (h : List X) → All P h → All P (only test h)
  all_only test [] a = tt
  all_only test (x ∷ h) a = all_keep (test x) x (only test h) a.0 (all_only test h a.1)

  pub all_except : (test : X → Bool) (h : List X) → All P h → All P (except test h)
  all_except test [] a = tt
  all_except test (x ∷ h) a = all_keep (not (test x)) x (except test h) a.0 (all_except test h a.1)

-- what passes a test passes it
module _ {X : Type 0} (test : X → Bool) where
  passing_step : (b : Bool) (x : X) (h : List X) → test x ≡ b → All (λ z. test z ≡ true) h → All (λ z. test z ≡ true) (keep b x h)
  passing_step true x h e a = (e, a)
  passing_step false x h e a = a

  pub passing : (h : List X) → All (λ z. test z ≡ true) (only test h)
  passing [] = tt
  passing (x ∷ h) = passing_step (test x) x (only test h) refl (passing h)

-- Something carried along a list: joined lists, and what every step keeps.
module _ {S X : Type 0} (onward : S → X → S) where
  pub leads_join : (s : S) (h k : List X) → leads_to onward s (h ++ k) ≡ leads_to onward (leads_to onward s h) k
  leads_join s [] k = refl
  leads_join s (x ∷ h) k = leads_join (onward s x) h k

  -- what each step keeps holds at the end
  pub kept_along : (P : S → Type 0) → ((s : S) (x : X) → P s → P (onward s x)) → (s : S) (h : List X) → P s → P (leads_to onward s h)
  kept_along P keeps s [] p = p
  kept_along P keeps s (x ∷ h) p = kept_along P keeps (onward s x) h (keeps s x p)

  -- The same with a count: what holds of nothing, and is kept where each of the list adds its own, holds of all that the list comes to.
  module _ (count : X → ℕ) (Q : X → Type 0) (P : ℕ → S → Type 0) (keeps : (n : ℕ) (s : S) (x : X) → Q x → P n s → P (n + count x) (onward s x)) where
    counted_from : (n : ℕ) (s : S) (h : List X) → All Q h → P n s → P (n + total count h) (leads_to onward s h)
    counted_from n s [] q p = subst (λ (k : ℕ). P k s) (omega arith) p
    counted_from n s (x ∷ h) q p =
        let e : (n + count x) + total count h ≡ n + total count (x ∷ h) = omega arith in
        subst (λ (k : ℕ). P k (leads_to onward s (x ∷ h))) e (counted_from (n + count x) (onward s x) h q.1 (keeps n s x q.0 p))

    pub counted_along : (s : S) (h : List X) → All Q h → P 0 s → P (total count h) (leads_to onward s h)
    counted_along s h q p = subst (λ (k : ℕ). P k (leads_to onward s h)) (omega arith) (counted_from 0 s h q p)

  module _ (P : S → X → Type 0) where
    pub throughout_left : (s : S) (h k : List X) → Throughout onward P s (h ++ k) → Throughout onward P s h
    throughout_left s [] k p = tt
    throughout_left s (x ∷ h) k p = (p.0, throughout_left (onward s x) h k p.1)

    pub throughout_right : (s : S) (h k : List X) → Throughout onward P s (h ++ k) → Throughout onward P (leads_to onward s h) k
    throughout_right s [] k p = p
    throughout_right s (x ∷ h) k p = throughout_right (onward s x) h k p.1

-- Counts: of joined lists; and where a count comes to nothing, each is nothing.
module _ {X : Type 0} (count : X → ℕ) where
  pub total_join : (h k : List X) → total count (h ++ k) ≡ total count h + total count k
  total_join [] k = omega arith
  total_join (x ∷ h) k = omega (arith, total_join h k)

  pub total_none : (h : List X) → total count h ≡ 0 → All (λ x. count x ≡ 0) h
  total_none [] e = tt
  total_none (x ∷ h) e = (omega arith, total_none h (omega arith))

module _ {S E A : Type 0} (M : Machine S E A) where
  pub plays_log : (s : S) (es : List E) → Plays M s (history_of M s es)
  plays_log s [] = tt
  plays_log s (e ∷ es) = (refl, plays_log (M.next s e) es)

  pub plays_left : (s : S) (h k : List (ExchangeOf E A)) → Plays M s (h ++ k) → Plays M s h
  plays_left s h k p = throughout_left (after_exchange M) (λ u x. M.answer u x.event ≡ x.got) s h k p

  pub plays_right : (s : S) (h k : List (ExchangeOf E A)) → Plays M s (h ++ k) → Plays M (end M s h) k
  plays_right s h k p = throughout_right (after_exchange M) (λ u x. M.answer u x.event ≡ x.got) s h k p

  pub end_join : (s : S) (h k : List (ExchangeOf E A)) → end M s (h ++ k) ≡ end M (end M s h) k
  end_join s h k = leads_join (after_exchange M) s h k

  -- Same is an order, and goes under what stands in front
  pub same_refl : {s : S} {h : List (ExchangeOf E A)} → Plays M s h → Same M s h h
  same_refl p = record { plays = p; ends = refl }

  pub same_trans : {s : S} {h k l : List (ExchangeOf E A)} → Same M s h k → Same M s k l → Same M s h l
  same_trans a b = record { plays = b.plays; ends = b.ends ∙ a.ends }

  pub same_cons : {s : S} (x : ExchangeOf E A) {h k : List (ExchangeOf E A)} → M.answer s x.event ≡ x.got → Same M (M.next s x.event) h k → Same M s (x ∷ h) (x ∷ k)
  same_cons x a i = record { plays = (a, i.plays); ends = i.ends }

  pub same_under : (s : S) (pre : List (ExchangeOf E A)) {h k : List (ExchangeOf E A)} → Plays M s pre → Same M (end M s pre) h k → Same M s (pre ++ h) (pre ++ k)
  same_under s [] p i = i
  same_under s (x ∷ pre) p i = same_cons x p.0 (same_under (M.next s x.event) pre p.1 i)
