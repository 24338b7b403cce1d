-- Every row of the table: a request of its length has the bytes that its function reads, and its answer has 4 to 132 bytes.
-- Assumes nothing.
use mathlib.Core.{Path.◌≡◌, Bool.true, List.List}
use Prim.Native.Nat.{ℕ, ◌≤◌}
use lib.{Dec.lit≤, ListN.length}
use borrow.Author.Tests.{eqb-true, leb-true, not-false}
use Rattle.rules.specs.{Tests.◌=?◌, Table.{table, row_of, fits?}, Refusals.verdict, Record.Whole, Cabinet.gate_checks, declared.Row.Row}
use Rattle.rules.specs.{declared.Function.Function}
use Rattle.rules.specs.declared.Function.TheVariants.{Mask, GetHealth, GetThreshold, GetFwInfo, Start, Send, Finish, Query, SetThreshold, GetSecurityState, SetPassphrase, Disable, Unlock, Freeze, Unserved}
use Rattle.rules.proofs.{page.Rows.looked_up, page.Passed.passed}
use Rattle.std.specs.Prelude.{Ok}

-- what the table's request lengths say of each function: the bytes that it reads are there
abbrev pub Fitting : Function → (size : ℕ) → Type 0
Fitting Mask size = Unit {0}
Fitting GetHealth size = Unit {0}
Fitting GetThreshold size = Unit {0}
Fitting GetFwInfo size = Unit {0}
Fitting Start size = Unit {0}
Fitting Send size = 12 ≤ size
Fitting Finish size = size ≡ 8
Fitting Query size = size ≡ 4
Fitting SetThreshold size = size ≡ 7
Fitting GetSecurityState size = Unit {0}
Fitting SetPassphrase size = size ≡ 64
Fitting Disable size = Unit {0}
Fitting Unlock size = Unit {0}
Fitting Freeze size = Unit {0}
Fitting Unserved size = Unit {0}

abbrev Fit : Row → Type 0
Fit row = (request : List ℕ) → fits? row request ≡ true → Fitting row.function (length request)

exactly : (n : ℕ) (request : List ℕ) → (length request =? n) ≡ true → length request ≡ n
exactly n request e = eqb-true (length request) n e

pub fitting : (index : ℕ) (request : List ℕ) → fits? (row_of index) request ≡ true → Fitting (row_of index).function (length request)
unfolding row_of fits?
fitting index =
    looked_up Fit index table (λ q e. tt, (λ q e. tt, (λ q e. tt, (λ q e. tt, (λ q e. tt, (λ q e. leb-true 12 (length q) e, (exactly 8, (exactly 4, (exactly 7, (λ q e. tt, (exactly 64, (λ q e. tt, (λ q e. tt, (λ q e. tt, λ q e. tt))))))))))))))

abbrev Answers : Row → Type 0
Answers row = (4 ≤ row.answer) × (row.answer ≤ 132)

pub answers : (index : ℕ) → Answers (row_of index)
unfolding row_of
answers index = looked_up Answers index table ((lit≤ tt, lit≤ tt), ((lit≤ tt, lit≤ tt), ((lit≤ tt, lit≤ tt), ((lit≤ tt, lit≤ tt), ((lit≤ tt, lit≤ tt), ((lit≤ tt, lit≤ tt), ((lit≤ tt, lit≤ tt), ((lit≤ tt, lit≤ tt), ((lit≤ tt, lit≤ tt), ((lit≤ tt, lit≤ tt), ((lit≤ tt, lit≤ tt), ((lit≤ tt, lit≤ tt), ((lit≤ tt, lit≤ tt), ((lit≤ tt, lit≤ tt), (lit≤ tt, lit≤ tt)))))))))))))))

-- a request that passed the gate has the bytes that its function reads
pub gate_fits : (w : Whole) (named revision index : ℕ) (request answer : List ℕ)
    → verdict (gate_checks w named revision index request answer) ≡ Ok tt → Fitting (row_of index).function (length request)
gate_fits w named revision index request answer e =
    fitting index request (not-false (fits? (row_of index) request) (passed (gate_checks w named revision index request answer) e).1.1.1.1.1.0)
