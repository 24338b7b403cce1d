-- Document 02, T-09: "Two runs from fresh that differ only in the other module's calls, readings and power cycles, and in which this module's Starts were answered alike,
-- give this module the same answers throughout." The two cabinets stay alike to the module (page/Alike.antt); where both go on with what reaches it, it is the same event.
-- Assumes nothing.
use Prim.Native.Nat.{ℕ, ◌≤◌}
use mathlib.Core.{Path.{◌≡◌, refl, sym, ◌∙◌, ap, subst, subst₂}, Bool.{Bool, true, false, ◌&&◌, ◌||◌, false≢true}, List.{List, [], ◌∷◌}}
use native.Mathlib.Omega.{arith}
use lib.ListN.{length}
use borrow.Author.Tests.{eqb-true, le-ltb}
use Rattle.rules.specs.{Tests.{◌=?◌, ◌<?◌}, Numbers.answer_room, Record.Whole, Refusals.verdict, Table.{table, row_of}, Module.call_of}
use Rattle.rules.specs.Cabinet.{Event, call, tick, power, reading, call_result}
use Rattle.rules.specs.{History.{history_of, keep}, Transfers.{machine, Exchange, History}, Demand1.{buffer_too_short, module_over1}, Demand3.{fresh_with, Sound}}
use Rattle.rules.specs.{Apart.{reaches, start_of, reached_by, starts_of, events_in, Unseen, RequestT09}, declared.Row.Row}
use Rattle.rules.proofs.{page.Choice.or_false, page.Rows.looked_up_at, page.Split.{Seen, seen_from, Doing, Powers, Reads, doing_of, call_doing, mine?, toward, unserved?, misfit?, act}, page.Facts.never}
use Rattle.rules.proofs.{page.Through.{stopped, mine_named}, page.Possible.{sound_fine, stopped_same, sound_through, sound_fresh, sound_next}}
use Rattle.rules.proofs.page.Apart.{other_left, ticks_judged, power_judged, of_ticks, of_power}
use Rattle.rules.proofs.page.Alike.{Alike, alike_back, asks_start, is_own, is_start, own_answers, own_alike, other_alike}

-- an index other than 13 asks for no Start
module _ (host : ℕ) (a b : Bool) (revision : ℕ) (request : List ℕ) (n : ℕ) (answer : List ℕ) where
  abbrev NoStart : Row → Type 0
  NoStart row = asks_start (doing_of host a b (call_of row.function revision request) n answer) ≡ false

  no_start : (index : ℕ) → (index =? 13) ≡ false → NoStart (row_of index)
  unfolding row_of
  no_start index e =
      looked_up_at NoStart index table (λ f. refl, (λ f. refl, (λ f. refl, (λ f. refl, (λ f. never (sym f ∙ e), (λ f. refl, (λ f. refl, (λ f. refl, (λ f. refl, (λ f. refl, (λ f. refl, (λ f. refl, (λ f. refl, (λ f. refl, refl))))))))))))))

own_toward : (b : Bool) (d : Doing) → is_own (toward b d) ≡ b
own_toward true d = refl
own_toward false d = refl

start_toward : (b : Bool) (d : Doing) → asks_start d ≡ false → is_start (toward b d) ≡ false
start_toward true d e = e
start_toward false d e = refl

module _ (own : ℕ) (l : own ≤ 1) where
  -- past what stops it, an event reaches the module where its act does; and where it is no Start, the act asks for none
  reaching : (event : Event) → stopped event ≡ false → is_own (act (own =? 0) event) ≡ reaches own event
  reaching (call host named revision index request answer) e =
      own_toward (mine? (own =? 0) named) (call_doing host revision index request answer) ∙ mine_named own named l (or_false (length answer <? answer_room) (1 <? named) e).1
  reaching tick e = refl
  reaching (power named) e = own_toward (mine? (own =? 0) named) Powers ∙ mine_named own named l e
  reaching (reading named new) e = own_toward (mine? (own =? 0) named) (Reads new) ∙ mine_named own named l e

  starting : (event : Event) → reaches own event ≡ true → start_of own event ≡ false → is_start (act (own =? 0) event) ≡ false
  starting (call host named revision index request answer) r e =
      start_toward (mine? (own =? 0) named) (call_doing host revision index request answer)
      (no_start host (unserved? revision index) (misfit? index request) revision request (row_of index).answer answer index (sym (ap (λ (b : Bool). b && index =? 13) r) ∙ e))
  starting tick r e = refl
  starting (power named) r e = start_toward (mine? (own =? 0) named) Powers refl
  starting (reading named new) r e = start_toward (mine? (own =? 0) named) (Reads new) refl

  -- what reaches the module names one that there is
  reached_there : (event : Event) → reaches own event ≡ true → module_over1 event ≡ false
  reached_there (call host named revision index request answer) r = let same = eqb-true named own r in le-ltb 1 named (omega arith)
  reached_there tick r = refl
  reached_there (power named) r = let same = eqb-true named own r in le-ltb 1 named (omega arith)
  reached_there (reading named new) r = let same = eqb-true named own r in le-ltb 1 named (omega arith)

or_none : (b : Bool) → (b || false) ≡ b
or_none true = refl
or_none false = refl

-- a short answer buffer is answered alike by any cabinet
short_answer : (w v : Whole) (event : Event) → buffer_too_short event ≡ true → machine.answer w event ≡ machine.answer v event
unfolding call_result verdict
short_answer w v (call host named revision index request answer) e = rw e
short_answer w v tick e = absurd (false≢true e)
short_answer w v (power named) e = absurd (false≢true e)
short_answer w v (reading named new) e = absurd (false≢true e)

module _ (own : ℕ) (l : own ≤ 1) where
  -- the two cabinets are sound, and alike to the module
  record Close (w v : Whole) : Type 0 where
    one : Sound w
    another : Sound v
    alike : Alike (seen_from (own =? 0) w) (seen_from (own =? 0) v)

  close_back : (w v : Whole) → Close w v → Close v w
  close_back w v c = record { one = c.another; another = c.one; alike = alike_back (seen_from (own =? 0) w) (seen_from (own =? 0) v) c.alike }

  -- an event that does not reach the module, in one of them
  pass_by : (w v : Whole) (event : Event) → reaches own event ≡ false → Close w v → Close (machine.next w event) v
  pass_by w v event r c = record { one = sound_next w event c.one; another = c.another; alike = go (stopped event) refl }
    where
      s : Seen
      s = seen_from (own =? 0) w

      u : Seen
      u = seen_from (own =? 0) v

      go : (b : Bool) → stopped event ≡ b → Alike (seen_from (own =? 0) (machine.next w event)) u
      go true e = subst (λ (z : Whole). Alike (seen_from (own =? 0) z) u) (sym (stopped_same w event c.one.area_size_law e)) c.alike
      go false e =
          subst (λ (z : Seen). Alike z u) (sym (sound_through (own =? 0) w event c.one e).nexts_as)
          (other_alike s u (act (own =? 0) event) (reaching own l event e ∙ r) (sound_fine (own =? 0) w c.one) c.alike)

  -- an event that reaches it, in both
  record Stay (w v : Whole) (event : Event) : Type 0 where
    answered : machine.answer w event ≡ machine.answer v event
    close : Close (machine.next w event) (machine.next v event)

  stay : (w v : Whole) (event : Event) → reaches own event ≡ true → Close w v → (start_of own event ≡ true → machine.answer w event ≡ machine.answer v event) → Stay w v event
  stay w v event r c starts =
      record {
        answered = same (stopped event) refl;
        close = record { one = sound_next w event c.one; another = sound_next v event c.another; alike = go (stopped event) refl };
      }
    where
      s : Seen
      s = seen_from (own =? 0) w

      u : Seen
      u = seen_from (own =? 0) v

      short : stopped event ≡ true → buffer_too_short event ≡ true
      short e = sym (rw (reached_there own l event r) (or_none (buffer_too_short event))) ∙ e

      same : (b : Bool) → stopped event ≡ b → machine.answer w event ≡ machine.answer v event
      same true e = short_answer w v event (short e)
      same false e = by_start (start_of own event) refl
        where
          by_start : (b : Bool) → start_of own event ≡ b → machine.answer w event ≡ machine.answer v event
          by_start true f = starts f
          by_start false f =
              (sound_through (own =? 0) w event c.one e).answers_as
              ∙ own_answers s u (act (own =? 0) event) (reaching own l event e ∙ r) (starting own l event r f) c.alike
              ∙ sym (sound_through (own =? 0) v event c.another e).answers_as

      go : (b : Bool) → stopped event ≡ b → Alike (seen_from (own =? 0) (machine.next w event)) (seen_from (own =? 0) (machine.next v event))
      go true e =
          subst₂ (λ (x y : Whole). Alike (seen_from (own =? 0) x) (seen_from (own =? 0) y)) (sym (stopped_same w event c.one.area_size_law e))
          (sym (stopped_same v event c.another.area_size_law e)) c.alike
      go false e =
          let p = sound_through (own =? 0) w event c.one e in
          let q = sound_through (own =? 0) v event c.another e in
          subst₂ (λ (x y : Seen). Alike x y) (sym p.nexts_as) (sym q.nexts_as)
          (own_alike s u (act (own =? 0) event) (reaching own l event e ∙ r) (sound_fine (own =? 0) w c.one) (sound_fine (own =? 0) v c.another) c.alike
          (sym p.answers_as ∙ same (stopped event) refl ∙ q.answers_as))

-- The same answers throughout, of two runs from these cabinets.
abbrev Throughout : (own : ℕ) (w v : Whole) (events others : List Event) → Type 0
Throughout own w v events others =
    events_in (reached_by own (history_of machine w events)) ≡ events_in (reached_by own (history_of machine v others))
    → starts_of own (history_of machine w events) ≡ starts_of own (history_of machine v others)
    → reached_by own (history_of machine w events) ≡ reached_by own (history_of machine v others)

-- what does not reach the module is no Start of it
start_reaches : (own : ℕ) (event : Event) → reaches own event ≡ false → start_of own event ≡ false
start_reaches own (call host named revision index request answer) e = ap (λ (b : Bool). b && index =? 13) e
start_reaches own tick e = refl
start_reaches own (power named) e = refl
start_reaches own (reading named new) e = refl

-- an event that does not reach the module stands in neither list
skip : (own : ℕ) (w v : Whole) (event : Event) (events others : List Event) → reaches own event ≡ false
    → Throughout own (machine.next w event) v events others → Throughout own w v (event ∷ events) others
skip own w v event events others r t = rw (r, start_reaches own event r) t

skip_there : (own : ℕ) (w v : Whole) (event : Event) (events others : List Event) → reaches own event ≡ false
    → Throughout own w (machine.next v event) events others → Throughout own w v events (event ∷ others)
skip_there own w v event events others r t = rw (r, start_reaches own event r) t

-- where the first list is at its end, nothing is left of the second
nothing_left : (h : History) → [] ≡ events_in h → [] ≡ h
nothing_left [] e = refl
nothing_left (x ∷ h) e = let n = ap length e in absurd (omega arith)

-- of two lists that begin with one each and are the same, the first and the others are
first_of : {X : Type 0} → X → List X → X
first_of x [] = x
first_of x (y ∷ h) = y

others_of : {X : Type 0} → List X → List X
others_of [] = []
others_of (y ∷ h) = h

same_first : {X : Type 0} (x y : X) (h k : List X) → ◌≡◌ {A = List X} (x ∷ h) (y ∷ k) → x ≡ y
unfolding first_of
same_first x y h k e = ap (first_of x) e

same_others : {X : Type 0} (x y : X) (h k : List X) → ◌≡◌ {A = List X} (x ∷ h) (y ∷ k) → h ≡ k
unfolding others_of
same_others x y h k e = ap others_of e

module _ (own : ℕ) (l : own ≤ 1) where
  -- both go on with the same event, which reaches the module
  together : (w v : Whole) (event : Event) (events others : List Event) → reaches own event ≡ true → Close own l w v
      → ((x y : Whole) → Close own l x y → Throughout own x y events others)
      → Throughout own w v (event ∷ events) (event ∷ others)
  together w v event events others r c later = rw r (λ p q. go (start_of own event) refl (same_others event event (events_in reached) (events_in another) p) q)
    where
      here : History
      here = history_of machine (machine.next w event) events

      there : History
      there = history_of machine (machine.next v event) others

      reached : History
      reached = reached_by own here

      another : History
      another = reached_by own there

      x : Exchange
      x = record { event = event; got = machine.answer w event }

      y : Exchange
      y = record { event = event; got = machine.answer v event }

      joined : (start_of own event ≡ true → machine.answer w event ≡ machine.answer v event) → events_in reached ≡ events_in another → starts_of own here ≡ starts_of own there
          → ◌≡◌ {A = History} (x ∷ reached) (y ∷ another)
      joined starts p q =
          let s = stay own l w v event r c starts in
          let same : reached ≡ another = later (machine.next w event) (machine.next v event) s.close p q in
          λ i. record { event = event; got = s.answered i } ∷ same i

      go : (b : Bool) → start_of own event ≡ b → events_in reached ≡ events_in another → keep b x (starts_of own here) ≡ keep b y (starts_of own there)
          → ◌≡◌ {A = History} (x ∷ reached) (y ∷ another)
      go true e p q =
          joined (λ f. ap (λ (z : Exchange). z.got) (same_first x y (starts_of own here) (starts_of own there) q)) p
          (same_others x y (starts_of own here) (starts_of own there) q)
      go false e p q = joined (λ f. never (sym f ∙ e)) p q

  -- the first goes on with an event that reaches the module: the second comes to the same event, past what does not reach it
  catch_up : (w : Whole) (event : Event) (events : List Event) → reaches own event ≡ true
      → ((others : List Event) (x y : Whole) → Close own l x y → Throughout own x y events others)
      → (others : List Event) (v : Whole) → Close own l w v → Throughout own w v (event ∷ events) others
  catch_up w event events r later [] v c = λ p q. let n = ap length (rw r at p) in absurd (omega arith)
  catch_up w event events r later (other ∷ others) v c = go (reaches own other) refl (catch_up w event events r later others (machine.next v other))
    where
      go : (b : Bool) → reaches own other ≡ b → (Close own l w (machine.next v other) → Throughout own w (machine.next v other) (event ∷ events) others)
          → Throughout own w v (event ∷ events) (other ∷ others)
      go false e past =
          skip_there own w v other (event ∷ events) others e
          (past (close_back own l (machine.next v other) w (pass_by own l v w other e (close_back own l w v c))))
      go true e past = λ p q.
          let same : event ≡ other = same_first event other _ _ (rw (r, e) at p) in
          subst (λ (z : Event). Throughout own w v (event ∷ events) (z ∷ others)) same (together w v event events others r c (later others)) p q

  throughout : (events others : List Event) (w v : Whole) → Close own l w v → Throughout own w v events others
  throughout [] others w v c = λ p q. nothing_left (reached_by own (history_of machine v others)) p
  throughout (event ∷ events) others w v c = go (reaches own event) refl (throughout events)
    where
      go : (b : Bool) → reaches own event ≡ b → ((others : List Event) (x y : Whole) → Close own l x y → Throughout own x y events others)
          → Throughout own w v (event ∷ events) others
      go false e later = skip own w v event events others e (later others (machine.next w event) v (pass_by own l w v event e c))
      go true e later = catch_up w event events e later others v c

-- two fresh cabinets are alike, whatever their areas hold: nothing is received
fresh_alike : (first : Bool) (area another : List ℕ) → Alike (seen_from first (fresh_with area)) (seen_from first (fresh_with another))
fresh_alike true area another = record { same_own = refl; same_bytes = λ e. refl }
fresh_alike false area another = record { same_own = refl; same_bytes = λ e. refl }

pub unseen : Unseen
unseen own l area another long wide events others =
    throughout own l events others (fresh_with area) (fresh_with another)
    (record { one = sound_fresh area long; another = sound_fresh another wide; alike = fresh_alike (own =? 0) area another })

-- Document 02, T-09, beside demand 3.
pub request_T09 : RequestT09
request_T09 =
    record { other_left = other_left; unseen = unseen; ticks_judged = ticks_judged; power_judged = power_judged; of_ticks = of_ticks; of_power = of_power }
