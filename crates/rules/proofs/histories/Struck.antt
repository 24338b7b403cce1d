-- Strike-out: a refused event that is no wrong passphrase leaves record and area, so what remains gives the same answers and the same end.
-- Assumes nothing.
use Prim.Native.Nat.{ℕ}
use mathlib.Core.{Path.{◌≡◌, refl}, Bool.{false, true≢false}, List.List}
use Rattle.rules.specs.{Refusals.{verdict, tick_checks, event_checks}, Table.row_of, Record.Whole}
use Rattle.rules.specs.{Module.{Call, call_in}, Cabinet.{Event, call, tick, power, reading, outcome, ticked, powered, kept, happened, call_checks, reading_checks, call_result, tick_result, power_result, reading_result, step}}
use Rattle.rules.specs.{History.Plays, Transfers.{Answer, machine, History}, Demand3.{remains, StrikeOut}, declared.Refusal.TheVariants.{R, Status}}
use Rattle.rules.proofs.histories.Swapping.{strike}
use Rattle.rules.specs.Refusals.{Verdict}
use Rattle.std.specs.Prelude.{Ok, Err}

outcome_leaves : (v : Verdict) (w : Whole) (named : ℕ) (c : Call) (n : ℕ) (answer : List ℕ) → remains (outcome v w named c n answer).reply.verdict ≡ false
    → (outcome v w named c n answer).after ≡ w
outcome_leaves (Ok tt) w named c n answer e = absurd (true≢false e)
outcome_leaves (Err (R number)) w named c n answer e = refl
outcome_leaves (Err (Status status ext)) w named c n answer e = rw e

happened_leaves : (v : Verdict) (changed was : Whole) → remains (happened v changed was).reply.verdict ≡ false → (happened v changed was).after ≡ was
happened_leaves (Ok tt) changed was e = absurd (true≢false e)
happened_leaves (Err refusal) changed was e = refl

pub leaves : (w : Whole) (event : Event) → remains (step w event).reply.verdict ≡ false → (step w event).after ≡ w
unfolding call_result tick_result power_result reading_result
leaves w (call host named revision index request answer) e =
    outcome_leaves (verdict (call_checks w named revision index request answer)) w named (call_in revision index request) (row_of index).answer answer e
leaves w tick e = happened_leaves (verdict (tick_checks w)) (ticked w) w e
leaves w (power named) e = happened_leaves (verdict (event_checks w named)) (powered w named) w e
leaves w (reading named new) e = happened_leaves (verdict (reading_checks w named new)) (kept w named new) w e

-- from any record and any area
pub strike_out : (w : Whole) (h : History) → Plays machine w h → StrikeOut w h
strike_out w h p = strike machine (λ (got : Answer). remains got.reply.verdict) leaves w h p
