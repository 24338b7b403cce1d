-- Exchanges that may change places, and exchanges that may be struck out. For any machine.
-- Assumes nothing.
use mathlib.Core.{Path.{◌≡◌, refl, sym, ◌∙◌, ap, subst}, Logic.{◌⊎◌, inl, inr}, Bool.{Bool, true, false}, List.{[], List, ◌∷◌, ◌++◌}}
use Rattle.rules.specs.History.{Machine, ExchangeOf, Plays, end, keep, only, except, All, Same}
use Rattle.rules.proofs.histories.Joining.{same_refl, same_trans, same_cons}

-- at the state s, x and then y may as well be y and then x
pub record Swaps {S E A : Type 0} (M : Machine S E A) (s : S) (x y : ExchangeOf E A) : Type 0 where
  pub earlier : M.answer s y.event ≡ y.got
  pub later : M.answer (M.next s y.event) x.event ≡ x.got
  pub meet : M.next (M.next s x.event) y.event ≡ M.next (M.next s y.event) x.event

-- the test tells two kinds apart
abbrev pub Either : {X : Type 0} (Own Free : X → Type 0) → (X → Bool) → X → Type 0
Either Own Free test x = ((test x ≡ true) × Own x) ⊎ ((test x ≡ false) × Free x)

-- Own x: x is one that stays; Free y: y is one that moves before it
-- I: what holds of every state that is met
module _ {S E A : Type 0} (M : Machine S E A) (I : S → Type 0) (keeps : (s : S) (e : E) → I s → I (M.next s e)) (Own Free : ExchangeOf E A → Type 0)
    (swaps : (s : S) (x y : ExchangeOf E A) → I s → Own x → Free y → M.answer s x.event ≡ x.got → M.answer (M.next s x.event) y.event ≡ y.got → Swaps M s x y) where
  -- one that stays goes behind all that move
  pub sink : (s : S) (x : ExchangeOf E A) (ys rest : List (ExchangeOf E A)) → I s → Own x → All Free ys → Plays M s (x ∷ (ys ++ rest)) → Same M s (x ∷ (ys ++ rest)) (ys ++ x ∷ rest)
  sink s x [] rest w o f p = same_refl M p
  sink s x (y ∷ ys) rest i o f p =
      let w : Swaps M s x y = swaps s x y i o f.0 p.0 p.1.0 in
      let lower : Same M (M.next s y.event) (x ∷ (ys ++ rest)) (ys ++ x ∷ rest) =
      sink (M.next s y.event) x ys rest (keeps s y.event i) o f.1 (w.later, subst (λ (u : S). Plays M u (ys ++ rest)) w.meet p.1.1) in
      record { plays = (w.earlier, lower.plays); ends = lower.ends ∙ ap (λ (u : S). end M u (ys ++ rest)) (sym w.meet) }

  frees_step : (test : ExchangeOf E A → Bool) (x : ExchangeOf E A) (mid : List (ExchangeOf E A)) → Either Own Free test x → All Free (except test mid) → All Free (except test (x ∷ mid))
  frees_step test x mid (inl q) below = rw q.0 below
  frees_step test x mid (inr q) below = rw q.0 (q.1, below)

  pub frees : (test : ExchangeOf E A → Bool) (mid : List (ExchangeOf E A)) → All (Either Own Free test) mid → All Free (except test mid)
  frees test [] e = tt
  frees test (x ∷ mid) e = frees_step test x mid e.0 (frees test mid e.1)

  gather_step : (test : ExchangeOf E A → Bool) (s : S) (x : ExchangeOf E A) (mid rest : List (ExchangeOf E A)) → I s → Either Own Free test x → All Free (except test mid) → M.answer s x.event ≡ x.got
      → Same M (M.next s x.event) (mid ++ rest) (except test mid ++ (only test mid ++ rest))
      → Same M s (x ∷ (mid ++ rest)) (except test (x ∷ mid) ++ (only test (x ∷ mid) ++ rest))
  gather_step test s x mid rest w (inl q) fs a i =
      rw q.0 (same_trans M (same_cons M x a i) (sink s x (except test mid) (only test mid ++ rest) w q.1 fs (a, i.plays)))
  gather_step test s x mid rest w (inr q) fs a i = rw q.0 (same_cons M x a i)

  -- all that stay go behind all that move
  pub gather : (test : ExchangeOf E A → Bool) (s : S) (mid rest : List (ExchangeOf E A)) → I s → All (Either Own Free test) mid → Plays M s (mid ++ rest) → Same M s (mid ++ rest) (except test mid ++ (only test mid ++ rest))
  gather test s [] rest w e p = same_refl M p
  gather test s (x ∷ mid) rest w e p =
      gather_step test s x mid rest w e.0 (frees test mid e.1) p.0 (gather test (M.next s x.event) mid rest (keeps s x.event w) e.1 p.1)

-- what fails the test leaves the state: it may be struck out
module _ {S E A : Type 0} (M : Machine S E A) (test : A → Bool) (leaves : (s : S) (e : E) → test (M.answer s e) ≡ false → M.next s e ≡ s) where
  in_front : (b : Bool) (s : S) (x : ExchangeOf E A) (h k : List (ExchangeOf E A)) → test x.got ≡ b → M.answer s x.event ≡ x.got
      → Same M (M.next s x.event) h k → Same M s (x ∷ h) (keep b x k)
  in_front true s x h k e a i = record { plays = (a, i.plays); ends = i.ends }
  in_front false s x h k e a i =
      let same : M.next s x.event ≡ s = leaves s x.event (ap test a ∙ e) in
      record { plays = subst (λ (u : S). Plays M u k) same i.plays; ends = ap (λ (u : S). end M u k) (sym same) ∙ i.ends }

  pub strike : (s : S) (h : List (ExchangeOf E A)) → Plays M s h → Same M s h (only (λ x. test x.got) h)
  strike s [] p = same_refl M p
  strike s (x ∷ h) p = in_front (test x.got) s x h (only (λ y. test y.got) h) refl p.0 (strike (M.next s x.event) h p.1)
