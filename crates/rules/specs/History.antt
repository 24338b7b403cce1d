-- Vocabulary: machines and their histories, that is, the events that came, each with the answer that it got, in their order. Knows no module; the
-- cabinet's own `History` is in Transfers.antt.
-- Assumes nothing.
use Rattle.std.specs.Prelude.{ℕ, ◌+◌}
use mathlib.Core.{Path.◌≡◌, Bool.{Bool, true, false, not, ◌||◌}, List.{List, [], ◌∷◌, ◌++◌}}
use Rattle.std.specs.Prelude.{if◌then◌else◌}

module _ {X : Type 0} where
  -- one list, and then another: `a and_then b and_then c` is read from left to right
  infixr 60 ◌and_then◌
  abbrev pub ◌and_then◌ : List X → List X → List X
  h and_then k = h ++ k

  -- x before the others, or left out
  abbrev pub keep : Bool → X → List X → List X
  keep true x h = x ∷ h
  keep false x h = h

  -- those that pass the test, in their own order
  abbrev pub only : (X → Bool) → List X → List X
  only test [] = []
  only test (x ∷ h) = keep (test x) x (only test h)

  -- all but those that pass the test, in their own order
  abbrev pub except : (X → Bool) → List X → List X
  except test [] = []
  except test (x ∷ h) = keep (not (test x)) x (except test h)

  -- whether one passes the test
  abbrev pub some : (X → Bool) → List X → Bool
  some test [] = false
  some test (x ∷ h) = test x || some test h

  -- those before the first that passes the test
  abbrev pub up_to : (X → Bool) → List X → List X
  up_to test [] = []
  up_to test (x ∷ h) = if test x then [] else x ∷ up_to test h

  -- the first that passes the test, with all after it
  abbrev pub on_from : (X → Bool) → List X → List X
  on_from test [] = []
  on_from test (x ∷ h) = if test x then x ∷ h else on_from test h

  -- every one has the property
  abbrev pub All : (X → Type 0) → List X → Type 0
  All P [] = Unit {0}
  All P (x ∷ h) = P x × All P h

  -- how much all come to, each counted by the function
  abbrev pub total : (X → ℕ) → List X → ℕ
  total count [] = 0
  total count (x ∷ h) = count x + total count h

-- Something is carried along a list, as a machine's state is: `onward s x` is what becomes of s at x.
module _ {S X : Type 0} (onward : S → X → S) where
  -- what has become of s at the end of the list
  abbrev pub leads_to : S → List X → S
  leads_to s [] = s
  leads_to s (x ∷ h) = leads_to (onward s x) h

  -- every one has the property, together with what is carried to it
  abbrev pub Throughout : (S → X → Type 0) → S → List X → Type 0
  Throughout P s [] = Unit {0}
  Throughout P s (x ∷ h) = P s x × Throughout P (onward s x) h

-- a machine answers an event, and is in another state afterwards
pub record Machine (S E A : Type 0) : Type 0 where
  pub answer : S → E → A
  pub next : S → E → S

-- an exchange: an event, and the answer that it got
pub record ExchangeOf (E A : Type 0) : Type 0 where
  pub event : E
  pub got : A

module _ {S E A : Type 0} (M : Machine S E A) where
  -- the history that these events make, from the state s
  abbrev pub history_of : S → List E → List (ExchangeOf E A)
  history_of s [] = []
  history_of s (event ∷ events) = record { event = event; got = M.answer s event } ∷ history_of (M.next s event) events

  -- the state after an exchange
  abbrev pub after_exchange : S → ExchangeOf E A → S
  after_exchange s x = M.next s x.event

  -- from the state s, every event of the history is answered just as the history says
  abbrev pub Plays : S → List (ExchangeOf E A) → Type 0
  Plays s h = Throughout after_exchange (λ state x. M.answer state x.event ≡ x.got) s h

  -- the end to which the history comes, from the state s
  abbrev pub end : S → List (ExchangeOf E A) → S
  end s h = leads_to after_exchange s h

  -- "no answer or end changes": from the state s every event of k is answered just as k says, and k comes to the same end as h. The answers that k says are
  -- h's, for k is made of h's own exchanges (`struck`, `moved`, `rearranged`).
  pub record Same (s : S) (h k : List (ExchangeOf E A)) : Type 0 where
    pub plays : Plays s k
    pub ends : end s k ≡ end s h
