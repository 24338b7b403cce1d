-- Demand 1, proved: a refused call is refused by its number in document 01, writes that number's bytes, and leaves the rest.
-- Assumes nothing.
use mathlib.Core.{Path.{◌≡◌, refl, sym, ◌∙◌, ap, subst}, Logic.{inl, inr}, Bool.{Bool, true, false, ◌&&◌, ◌||◌, false≢true}, List.{List, [], ◌∷◌, ◌++◌}}
use Prim.Native.Nat.{ℕ, ◌-◌}
use borrow.Author.Tests.{eqb-true, eq-eqb}
use lib.ListN.{length, take}
use Rattle.rules.specs.{Tests.◌=?◌, Bytes.zeros, Record.{Module, Whole, standing}, Refusals.{Check, verdict, status_bytes, status_length, answer_after}, Table.{table, row_of}}
use Rattle.rules.specs.{Module.{Call, call_of, checks, accepted_answer}, Cabinet.{gate_checks, call_checks, outcome, call_result, happened, kept, reading_checks, reading_result}}
use Rattle.rules.specs.{Demand1.{refusal_numbers, Among, Numbered, column, RefusedBy, Answered, OfCall, reading_numbers, OfReading, Demand1}, declared.Function.Function}
use Rattle.rules.specs.declared.Function.TheVariants.{Mask, GetHealth, GetThreshold, GetFwInfo, Start, Send, Finish, Query, SetThreshold, GetSecurityState, SetPassphrase, Disable, Unlock, Freeze, Unserved}
use Rattle.rules.specs.{declared.Row.Row, declared.Reading.Reading, declared.Refusal.Refusal, declared.Refusal.TheVariants.{R, Status}}
use Rattle.rules.proofs.{page.Choice.and_true, page.Passed.{every, by_rows}, page.Rows.looked_up, page.Given.{each_given, each_by_reading}}
use Rattle.rules.proofs.page.Possible.{possible_fresh, possible_next, area_next, no_other_R}
use Rattle.rules.specs.Refusals.{Verdict}
use Rattle.std.specs.Prelude.{Ok, Err}

-- a test for the numbers of a list, and that it tells the truth
abbrev pub same_number : Refusal → Refusal → Bool
same_number (R a) (R b) = a =? b
same_number (R a) (Status status ext) = false
same_number (Status status ext) (R b) = false
same_number (Status a b) (Status status ext) = a =? status && b =? ext

abbrev pub among? : List Refusal → Refusal → Bool
among? [] refusal = false
among? (number ∷ numbers) refusal = same_number refusal number || among? numbers refusal

same_numbers : (a b : Refusal) → same_number a b ≡ true → a ≡ b
same_numbers (R a) (R b) e = ap R (eqb-true a b e)
same_numbers (R a) (Status status ext) e = absurd (false≢true e)
same_numbers (Status status ext) (R b) e = absurd (false≢true e)
same_numbers (Status a b) (Status status ext) e =
    let q = and_true (a =? status) (b =? ext) e in
    ap (λ (s : ℕ). Status s b) (eqb-true a status q.0) ∙ ap (Status status) (eqb-true b ext q.1)

among_them : (numbers : List Refusal) (refusal : Refusal) → among? numbers refusal ≡ true → Among numbers refusal
among_them [] refusal e = absurd (false≢true e)
among_them (number ∷ numbers) refusal e = go (same_number refusal number) refl e (among_them numbers refusal)
  where
    go : (b : Bool) → same_number refusal number ≡ b → (b || among? numbers refusal) ≡ true → (among? numbers refusal ≡ true → Among numbers refusal) → Among (number ∷ numbers) refusal
    go true same q later = inl (same_numbers refusal number same)
    go false same q later = inr (later q)

abbrev numbered? : Refusal → Bool
numbered? refusal = among? refusal_numbers refusal

-- a verdict that a function with an answer of n bytes may give: a refusal has a number, and its column is its length
abbrev allowed : (n : ℕ) → Verdict → Bool
allowed n (Ok tt) = true
allowed n (Err (R number)) = numbered? (R number)
allowed n (Err (Status status ext)) = numbered? (Status status ext) && status_length status n =? column status n

-- the answer's length, by function
abbrev answer_of : Function → ℕ
answer_of Mask = 4
answer_of GetHealth = 132
answer_of GetThreshold = 12
answer_of GetFwInfo = 44
answer_of Start = 8
answer_of Send = 4
answer_of Finish = 4
answer_of Query = 12
answer_of SetThreshold = 4
answer_of GetSecurityState = 12
answer_of SetPassphrase = 4
answer_of Disable = 4
answer_of Unlock = 4
answer_of Freeze = 4
answer_of Unserved = 4

table_answers : (index : ℕ) → (row_of index).answer ≡ answer_of (row_of index).function
unfolding row_of
table_answers index = looked_up (λ (r : Row). r.answer ≡ answer_of r.function) index table (refl, (refl, (refl, (refl, (refl, (refl, (refl, (refl, (refl, (refl, (refl, (refl, (refl, (refl, refl))))))))))))))

own_allowed : (m : Module) (f : Function) (revision : ℕ) (request : List ℕ) → every (allowed (answer_of f)) (checks m (call_of f revision request)) ≡ true
own_allowed m Mask revision request = refl
own_allowed m GetHealth revision request = refl
own_allowed m GetThreshold revision request = refl
own_allowed m GetFwInfo revision request = refl
own_allowed m Start revision request = refl
own_allowed m Send revision request = refl
own_allowed m Finish revision request = refl
own_allowed m Query revision request = refl
own_allowed m SetThreshold revision request = refl
own_allowed m GetSecurityState revision request = refl
own_allowed m SetPassphrase revision request = refl
own_allowed m Disable revision request = refl
own_allowed m Unlock revision request = refl
own_allowed m Freeze revision request = refl
own_allowed m Unserved revision request = refl

-- the verdict that a result replies
outcome_verdict : (v : Verdict) (w : Whole) (named : ℕ) (call : Call) (n : ℕ) (answer : List ℕ) → (outcome v w named call n answer).reply.verdict ≡ v
outcome_verdict (Ok tt) w named call n answer = refl
outcome_verdict (Err (R number)) w named call n answer = refl
outcome_verdict (Err (Status status ext)) w named call n answer = refl

refused_by : (refusal : Refusal) (w : Whole) (named : ℕ) (call : Call) (n : ℕ) (answer : List ℕ) → allowed n (Err refusal) ≡ true
    → RefusedBy refusal w named n answer (outcome (Err refusal) w named call n answer)
refused_by (R number) w named call n answer e = (refl, refl, refl, refl)
refused_by (Status status ext) w named call n answer e =
    let long = eqb-true (status_length status n) (column status n) (and_true (numbered? (Status status ext)) (status_length status n =? column status n) e).1 in
    (refl, refl, ap (λ (k : ℕ). answer_after (status_bytes status ext ++ zeros (k - 4)) answer) long, long)

numbers_of : (n : ℕ) (refusal : Refusal) → allowed n (Err refusal) ≡ true → Numbered refusal
numbers_of n (R number) e = among_them refusal_numbers (R number) e
numbers_of n (Status status ext) e =
    among_them refusal_numbers (Status status ext) (and_true (numbered? (Status status ext)) (status_length status n =? column status n) e).0

-- an accepted call's bytes have the function's length, and begin with status 0
accepted_long : (m : Module) (f : Function) (revision : ℕ) (request : List ℕ) → length (accepted_answer m (call_of f revision request)) ≡ answer_of f
accepted_long m Mask revision request = refl
accepted_long m GetHealth revision request = refl
accepted_long m GetThreshold revision request = refl
accepted_long m GetFwInfo revision request = refl
accepted_long m Start revision request = refl
accepted_long m Send revision request = refl
accepted_long m Finish revision request = refl
accepted_long m Query revision request = refl
accepted_long m SetThreshold revision request = refl
accepted_long m GetSecurityState revision request = refl
accepted_long m SetPassphrase revision request = refl
accepted_long m Disable revision request = refl
accepted_long m Unlock revision request = refl
accepted_long m Freeze revision request = refl
accepted_long m Unserved revision request = refl

accepted_begins : (m : Module) (f : Function) (revision : ℕ) (request : List ℕ) → (f ≡ Mask → ⊥) → take 4 (accepted_answer m (call_of f revision request)) ≡ zeros 4
accepted_begins m Mask revision request other = absurd (other refl)
accepted_begins m GetHealth revision request other = refl
accepted_begins m GetThreshold revision request other = refl
accepted_begins m GetFwInfo revision request other = refl
accepted_begins m Start revision request other = refl
accepted_begins m Send revision request other = refl
accepted_begins m Finish revision request other = refl
accepted_begins m Query revision request other = refl
accepted_begins m SetThreshold revision request other = refl
accepted_begins m GetSecurityState revision request other = refl
accepted_begins m SetPassphrase revision request other = refl
accepted_begins m Disable revision request other = refl
accepted_begins m Unlock revision request other = refl
accepted_begins m Freeze revision request other = refl
accepted_begins m Unserved revision request other = refl

module _ (w : Whole) (named revision index : ℕ) (request answer : List ℕ) where
  m : Module
  m = standing named w

  judged : Verdict
  judged = verdict (call_checks w named revision index request answer)

  n : ℕ
  n = (row_of index).answer

  all_allowed : every (allowed n) (call_checks w named revision index request answer) ≡ true
  unfolding n m
  all_allowed = subst (λ (k : ℕ). every (allowed k) (call_checks w named revision index request answer) ≡ true) (sym (table_answers index)) (gated (row_of index).function)
    where
      gated : (f : Function) → every (allowed (answer_of f)) (gate_checks w named revision index request answer ++ checks m (call_of f revision request)) ≡ true
      gated f = rw (eq-eqb (answer_of f) (answer_of f) refl) (own_allowed m f revision request)

  is_allowed : (refusal : Refusal) → judged ≡ Err refusal → allowed n (Err refusal) ≡ true
  unfolding judged
  is_allowed refusal e = ap (allowed n) (sym e) ∙ by_rows (allowed n) (call_checks w named revision index request answer) all_allowed

  replied : (call_result w named revision index request answer).reply.verdict ≡ judged
  unfolding call_result judged
  replied = outcome_verdict judged w named (call_of (row_of index).function revision request) (row_of index).answer answer

  answered : judged ≡ Ok tt → Answered (row_of index) answer (call_result w named revision index request answer)
  unfolding call_result judged m
  answered e =
      subst (λ (v : Verdict). Answered (row_of index) answer (outcome v w named (call_of (row_of index).function revision request) (row_of index).answer answer)) (sym e)
      (record {
        bytes = accepted_answer m (call_of (row_of index).function revision request);
        written = refl;
        long = accepted_long m (row_of index).function revision request ∙ sym (table_answers index);
        told = refl;
        begins = accepted_begins m (row_of index).function revision request;
      })

  of_call : OfCall w named revision index request answer
  unfolding call_result judged n
  of_call =
      record {
        judged = replied;
        numbers = λ refusal e. numbers_of n refusal (is_allowed refusal (sym replied ∙ e));
        leaves = λ refusal e.
            let f : judged ≡ Err refusal = sym replied ∙ e in
            subst (λ (v : Verdict). RefusedBy refusal w named n answer (outcome v w named (call_of (row_of index).function revision request) n answer)) (sym f)
            (refused_by refusal w named (call_of (row_of index).function revision request) n answer (is_allowed refusal f));
        answers = λ e. answered (sym replied ∙ e);
      }

-- a tick, a power cycle or a reading: where every one of its rows gives a number of the list, it is refused by one of them
pub happened_verdict : (v : Verdict) (changed was : Whole) → (happened v changed was).reply.verdict ≡ v
happened_verdict (Ok tt) changed was = refl
happened_verdict (Err refusal) changed was = refl

abbrev pub of_these : List Refusal → Verdict → Bool
of_these numbers (Ok tt) = true
of_these numbers (Err refusal) = among? numbers refusal

pub happened_among : (numbers : List Refusal) (rows : List Check) (changed was : Whole) → every (of_these numbers) rows ≡ true
    → (refusal : Refusal) → (happened (verdict rows) changed was).reply.verdict ≡ Err refusal → Among numbers refusal
happened_among numbers rows changed was own refusal e =
    among_them numbers refusal (ap (of_these numbers) (sym e ∙ happened_verdict (verdict rows) changed was) ∙ by_rows (of_these numbers) rows own)

of_reading : (w : Whole) (named : ℕ) (new : Reading) → OfReading w named new
unfolding reading_result
of_reading w named new =
    record {
      judged = replied;
      numbers = happened_among reading_numbers (reading_checks w named new) (kept w named new) w refl;
      leaves = λ refusal e. ap (λ (v : Verdict). (happened v (kept w named new) w).after) (sym replied ∙ e);
      keeps = λ e. ap (λ (v : Verdict). (happened v (kept w named new) w).after) (sym replied ∙ e);
      silent = silence (verdict (reading_checks w named new));
    }
  where
    replied : (happened (verdict (reading_checks w named new)) (kept w named new) w).reply.verdict ≡ verdict (reading_checks w named new)
    replied = happened_verdict (verdict (reading_checks w named new)) (kept w named new) w

    silence : (v : Verdict) → ((happened v (kept w named new) w).reply.length ≡ 0) × ((happened v (kept w named new) w).answer ≡ [])
    silence (Ok tt) = (refl, refl)
    silence (Err refusal) = (refl, refl)

pub demand_1 : Demand1
demand_1 =
    record {
      calls = of_call;
      each_given = each_given;
      readings = of_reading;
      each_by_reading = each_by_reading;
      events = λ w event p l.
          record {
            stays_possible = possible_next w event p l;
            keeps_size = area_next w event p l;
            no_other_R = λ number e. no_other_R w event number p l e;
          };
      fresh_possible = possible_fresh;
    }
