-- Demand 3's move: "All but its own Sends between a transfer's Start and its accepted Finish can move, in its own order, before that Start".
-- Assumes nothing.
use Rattle.std.specs.Prelude.{ℕ}
use mathlib.Core.{Path.◌≡◌, Bool.{Bool, false, ◌&&◌}, List.{[], ◌∷◌}}
use Rattle.std.specs.Prelude.{if◌then◌else◌}
use Rattle.rules.specs.Tests.{◌=?◌}
use Rattle.rules.specs.History.{some, up_to, on_from, ◌and_then◌}
use Rattle.rules.specs.Transfers.{Exchange, History, Kind, Started, Sent, Finished, Ticked, Powered, Other, kind_of}
use Rattle.rules.specs.Sends.{own_sends, others, FinishedIn}

-- a Start behind the others of what stood between; after it the transfer's own Sends, and what follows
abbrev pub others_first : (context : ℕ) (start : Exchange) (between rest : History) → History
others_first context start between rest = others context between and_then (start ∷ (own_sends context between and_then rest))

-- the history with one move made
abbrev pub moved : {h : History} → FinishedIn h → History
moved f = f.before and_then others_first f.context f.start f.between (f.finish ∷ f.since)

-- k comes from h by such moves, one after another, and by nothing else
pub data ByMoves (h : History) : History → Type 0 where
  as_it_is : ByMoves h h
  one_more : {k : History} → ByMoves h k → (f : FinishedIn k) → ByMoves h (moved f)

-- the Finish of the transfer of this module with this context
abbrev pub is_finish_of : (own context : ℕ) → Kind → Bool
is_finish_of own context (Started named host c) = false
is_finish_of own context (Sent named host c offset piece) = false
is_finish_of own context (Finished named host c flag) = named =? own && c =? context
is_finish_of own context Ticked = false
is_finish_of own context (Powered named) = false
is_finish_of own context Other = false

-- whether an exchange is that Finish
abbrev pub its_finish : (own context : ℕ) → Exchange → Bool
its_finish own context x = is_finish_of own context (kind_of x)

-- A Start that its Finish follows goes behind the others of what stands before that Finish. Every other exchange stays.
abbrev pub settle : Kind → Exchange → History → History
settle (Started named host context) x h =
    if some (its_finish named context) h then others_first context x (up_to (its_finish named context) h) (on_from (its_finish named context) h)
    else x ∷ h
settle (Sent named host context offset piece) x h = x ∷ h
settle (Finished named host context flag) x h = x ∷ h
settle Ticked x h = x ∷ h
settle (Powered named) x h = x ∷ h
settle Other x h = x ∷ h

-- the history with the move made for all its finished transfers at once, from the last one to the first
abbrev pub rearranged : History → History
rearranged [] = []
rearranged (x ∷ h) = settle (kind_of x) x (rearranged h)

-- In k the transfer f of h stands as one unbroken Start, Sends, Finish: its own Sends in their own order, and nothing else between.
pub record Unbroken (k : History) {h : History} (f : FinishedIn h) : Type 0 where
  pub ahead : History
  pub behind : History
  pub stands : k ≡ ahead and_then f.start ∷ own_sends f.context f.between and_then f.finish ∷ behind
