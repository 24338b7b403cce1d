-- `text_phase::reason_name` meets its contract: each arm's text is the name of its reason.
use native.Mathlib.Omega.{arith}
use borrow.Author.Tests.{ne_eqb}
use Rattle.text_phase.proofs.reason_name.Goals as goal

pub returns-in-1 : goal.returns-in-1
returns-in-1 c = rw c.in-1.is

pub returns-in-2 : goal.returns-in-2
returns-in-2 c = rw c.in-2.is

pub returns-in-3 : goal.returns-in-3
returns-in-3 c = rw c.in-3.is

pub returns-in-4 : goal.returns-in-4
returns-in-4 c = rw c.in-4.is

pub returns-in_default : goal.returns-in_default
returns-in_default c = let reason = c.args.reason in
    simp (ne_eqb reason 1 (λ e. omega arith), ne_eqb reason 2 (λ e. omega arith), ne_eqb reason 3 (λ e. omega arith), ne_eqb reason 4 (λ e. omega arith))
