-- `program_logs::go_through` meets its contract: the work was done at each turn, from the first to the one behind which it stopped.
use Rattle.std.proofs.Common.{◌≡◌, Option, Err, of_calls, rules}
use mathlib.Core.Path.{subst}
use Rattle.program_files.specs.declared.{Unwritten.TheVariants.{Closed}}
use Rattle.program_logs.specs.declared.{Logs.Logs}
use Rattle.program_logs.specs.Turns.{NextOrNone}
use Rattle.program_logs.specs.Through.{over, closed, goes_on}
use Rattle.program_logs.proofs.through.go_through.Goals as goal

pub loop-next-preserved : goal.loop-next-preserved
loop-next-preserved g c =
    let done = c.loop-next.invariant.1 in
    let next = subst (λ (n : Option Logs). NextOrNone c.loop-next.logs n) c.in-Some.is c.next.ensures in
    let goes : c.work-shown.result ≡ Err Closed → ⊥ = search rules in
    (search of_calls, (done.0, done.1, done.2, λ r rest. done.3 r (goes_on next (search rules) c.work-shown.ensures goes c.told-logs.ensures rest)))

pub returns-then-eq-clause-through : goal.returns-then-eq-clause-through
returns-then-eq-clause-through g c =
    let done = c.loop-next.invariant.1 in
    let next = subst (λ (n : Option Logs). NextOrNone c.loop-next.logs n) c.in-Some.is c.next.ensures in
    let shut : c.work-shown.result ≡ Err Closed = search rules in
    (done.0, done.1, done.2, done.3 _ (closed next (search rules) c.work-shown.ensures shut))

pub returns-clause-through : goal.returns-clause-through
returns-clause-through g c =
    let done = c.loop-next.invariant.1 in
    (done.0, done.1, done.2, done.3 _ (over (subst (λ (n : Option Logs). NextOrNone c.loop-next.logs n) c.in_default.is c.next.ensures)))
