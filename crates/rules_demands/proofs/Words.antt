-- The words written out are the words of demand 3: the same kind of every exchange, the same lists, bytes and counts, the same histories and ends.
-- Assumes nothing.
use Prim.Native.Nat.{ℕ, ◌+◌}
use mathlib.Core.{Path.{◌≡◌, refl, ◌∙◌, ap}, Bool.{Bool, true, false, not}, List.{List, [], ◌∷◌, ◌++◌}}
use Rattle.std.specs.Prelude.{if◌then◌else◌}
use Rattle.rules.{specs.Tests.{◌=?◌}, specs.Record.Whole, specs.Table.{table, row_of}, specs.Module.{call_of, call_in}, specs.Cabinet.{Event, call, tick, power, reading, step}}
use Rattle.rules.specs.History.{keep, history_of, end, Plays}
use Rattle.rules.specs.Transfers.{Answer, machine, Exchange, History, Kind, Started, Sent, Finished, Ticked, Powered, Other, call_kind, event_kind, kind_of}
use Rattle.rules.{specs.Sends.{is_send_of, own_sends, others, piece_of, pieces, tick_count, ticks_in, power_count, power_cycles}, specs.Demand3.{remains, struck}}
use Rattle.rules.{specs.declared.Row.Row, specs.declared.Refusal.TheVariants.{R, Status}}
use Rattle.rules.{proofs.page.Choice.if_both, proofs.page.Rows.looked_up}
use Rattle.rules_demands.specs.Words.{accepted_as, answered_as, what, stays, remaining, send_with, sends_with, others_than, bytes_of, joined, one_for_tick, ticks, one_for_power, powers, events_of, comes_to, answers_to}
use Rattle.rules_demands.proofs.Places.{looked_at}
use Rattle.rules.specs.Refusals.{Verdict}
use Rattle.std.specs.Prelude.{Ok, Err}

-- what a call is, by the function of its index or by the index itself
kind_call : (named host revision index : ℕ) (request lent : List ℕ) (v : Verdict) (n : ℕ) (buffer : List ℕ)
    → call_kind named host (call_in revision index request) (record { reply = record { verdict = v; length = n }; buffer = buffer })
    ≡ answered_as (call host named revision index request lent) v buffer
unfolding row_of
kind_call named host revision index request lent (Ok tt) n buffer =
    looked_at (λ (i : ℕ) (r : Row). call_kind named host (call_of r.function revision request) (record { reply = record { verdict = Ok tt; length = n }; buffer = buffer }) ≡ accepted_as named host i request buffer)
    index table
    (refl, (refl, (refl, (refl, (refl, (refl, (refl, (refl, (refl, (refl, (refl, (refl, (refl, (refl, tt))))))))))))))
    (λ lacks. rw (lacks.1.1.1.1.0, lacks.1.1.1.1.1.0, lacks.1.1.1.1.1.1.0))
kind_call named host revision index request lent (Err refusal) n buffer =
    looked_up (λ (r : Row). call_kind named host (call_of r.function revision request) (record { reply = record { verdict = Err refusal; length = n }; buffer = buffer }) ≡ Other)
    index table
    (refl, (refl, (refl, (refl, (refl, (refl, (refl, (refl, (refl, (refl, (refl, (refl, (refl, (refl, refl))))))))))))))

pub kind_event : (event : Event) (got : Answer) → event_kind event got ≡ answered_as event got.reply.verdict got.buffer
kind_event (call host named revision index request lent) got =
    kind_call named host revision index request lent got.reply.verdict got.reply.length got.buffer
kind_event tick got = refl
kind_event (power named) got = refl
kind_event (reading named new) got = refl

pub kind_is : (x : Exchange) → kind_of x ≡ what x
kind_is x = kind_event x.event x.got

-- what remains
stays_is : (v : Verdict) → remains v ≡ stays v
stays_is (Ok tt) = refl
stays_is (Err (R number)) = refl
stays_is (Err (Status status ext)) = refl

-- a list is kept as a choice says
kept : (b : Bool) (x : Exchange) {h k : History} → h ≡ k → keep b x h ≡ (if b then x ∷ k else k)
kept true x e = ap (λ (z : History). x ∷ z) e
kept false x e = e

left_out : (b : Bool) (x : Exchange) {h k : History} → h ≡ k → keep (not b) x h ≡ (if b then k else x ∷ k)
left_out true x e = e
left_out false x e = ap (λ (z : History). x ∷ z) e

pub remaining_is : (h : History) → struck h ≡ remaining h
remaining_is [] = refl
remaining_is (x ∷ h) =
    ap (λ (b : Bool). keep b x (struck h)) (stays_is x.got.reply.verdict) ∙ kept (stays x.got.reply.verdict) x (remaining_is h)

-- Sends with a context, the others, and their bytes
send_is : (context : ℕ) (k : Kind) → is_send_of context k ≡ send_with context k
send_is context (Started named host c) = refl
send_is context (Sent named host c offset piece) = refl
send_is context (Finished named host c flag) = refl
send_is context Ticked = refl
send_is context (Powered named) = refl
send_is context Other = refl

sends_as : (context : ℕ) (x : Exchange) → is_send_of context (kind_of x) ≡ send_with context (what x)
sends_as context x = send_is context (kind_of x) ∙ ap (send_with context) (kind_is x)

pub sends_is : (context : ℕ) (h : History) → own_sends context h ≡ sends_with context h
sends_is context [] = refl
sends_is context (x ∷ h) =
    ap (λ (b : Bool). keep b x (own_sends context h)) (sends_as context x) ∙ kept (send_with context (what x)) x (sends_is context h)

pub others_is : (context : ℕ) (h : History) → others context h ≡ others_than context h
others_is context [] = refl
others_is context (x ∷ h) =
    ap (λ (b : Bool). keep (not b) x (others context h)) (sends_as context x) ∙ left_out (send_with context (what x)) x (others_is context h)

bytes_is : (k : Kind) → piece_of k ≡ bytes_of k
bytes_is (Started named host c) = refl
bytes_is (Sent named host c offset piece) = refl
bytes_is (Finished named host c flag) = refl
bytes_is Ticked = refl
bytes_is (Powered named) = refl
bytes_is Other = refl

pub joined_is : (h : History) → pieces h ≡ joined h
joined_is [] = refl
joined_is (x ∷ h) =
    ap (λ (l : List ℕ). l ++ pieces h) (bytes_is (kind_of x) ∙ ap bytes_of (kind_is x)) ∙ ap (λ (l : List ℕ). bytes_of (what x) ++ l) (joined_is h)

pub sent_is : (context : ℕ) (h : History) → pieces (own_sends context h) ≡ joined (sends_with context h)
sent_is context h = ap pieces (sends_is context h) ∙ joined_is (sends_with context h)

-- ticks and power cycles
no_count : (count : Kind → ℕ) (named host index : ℕ) (request buffer : List ℕ) (v : Verdict) (revision : ℕ) (lent : List ℕ)
    → ((n h c : ℕ) → count (Started n h c) ≡ 0)
    → ((n h c o : ℕ) (p : List ℕ) → count (Sent n h c o p) ≡ 0)
    → ((n h c f : ℕ) → count (Finished n h c f) ≡ 0)
    → count Other ≡ 0
    → count (answered_as (call host named revision index request lent) v buffer) ≡ 0
no_count count named host index request buffer (Ok tt) revision lent a b c d =
    if_both (λ (k : Kind). count k ≡ 0) (index =? 13) (a _ _ _) (if_both (λ (k : Kind). count k ≡ 0) (index =? 14) (b _ _ _ _ _) (if_both (λ (k : Kind). count k ≡ 0) (index =? 15) (c _ _ _ _) d))
no_count count named host index request buffer (Err refusal) revision lent a b c d = d

tick_is : (event : Event) (got : Answer) → tick_count (event_kind event got) ≡ one_for_tick event
tick_is (call host named revision index request lent) got =
    ap tick_count (kind_event (call host named revision index request lent) got)
    ∙ no_count tick_count named host index request got.buffer got.reply.verdict revision lent (λ n h c. refl) (λ n h c o p. refl) (λ n h c f. refl) refl
tick_is tick got = refl
tick_is (power named) got = refl
tick_is (reading named new) got = refl

pub ticks_is : (h : History) → ticks_in h ≡ ticks h
ticks_is [] = refl
ticks_is (x ∷ h) =
    ap (λ (n : ℕ). n + ticks_in h) (tick_is x.event x.got) ∙ ap (λ (n : ℕ). one_for_tick x.event + n) (ticks_is h)

power_is : (own : ℕ) (event : Event) (got : Answer) → power_count own (event_kind event got) ≡ one_for_power own event
power_is own (call host named revision index request lent) got =
    ap (power_count own) (kind_event (call host named revision index request lent) got)
    ∙ no_count (power_count own) named host index request got.buffer got.reply.verdict revision lent (λ n h c. refl) (λ n h c o p. refl) (λ n h c f. refl) refl
power_is own tick got = refl
power_is own (power named) got = refl
power_is own (reading named new) got = refl

pub powers_is : (own : ℕ) (h : History) → power_cycles own h ≡ powers own h
powers_is own [] = refl
powers_is own (x ∷ h) =
    ap (λ (n : ℕ). n + power_cycles own h) (power_is own x.event x.got) ∙ ap (λ (n : ℕ). one_for_power own x.event + n) (powers_is own h)

-- histories and ends
pub history_is : (m : Whole) (events : List Event) → history_of machine m events ≡ answers_to m events
history_is m [] = refl
history_is m (event ∷ events) =
    ap (λ (h : History). record { event = event; got = record { reply = (step m event).reply; buffer = (step m event).answer } } ∷ h)
    (history_is (step m event).after events)

pub end_is : (m : Whole) (h : History) → end machine m h ≡ comes_to m (events_of h)
end_is m [] = refl
end_is m (x ∷ h) = end_is (step m x.event).after h

pub plays_is : (m : Whole) (h : History) → Plays machine m h → answers_to m (events_of h) ≡ h
plays_is m [] p = refl
plays_is m (x ∷ h) p = λ i. record { event = x.event; got = p.0 i } ∷ plays_is (step m x.event).after h p.1 i
