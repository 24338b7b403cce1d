-- Rows that are judged in parts: a refusal of the first part stands, and where the first part accepts, the second decides.
-- Assumes nothing.
use mathlib.Core.{Path.{◌≡◌, sym, ◌∙◌, ap}, List.{List, ◌++◌}}
use Rattle.rules.{specs.Refusals.{Check, verdict}, specs.declared.Refusal.Refusal}
use Rattle.rules.{proofs.page.Passed.{and_then, verdict_join}}
use Rattle.rules.specs.Refusals.{Verdict}
use Rattle.std.specs.Prelude.{Ok, Err}

pub stands : (rows later : List Check) {refusal : Refusal} → verdict rows ≡ Err refusal → Err refusal ≡ verdict (rows ++ later)
stands rows later e = sym (verdict_join rows later ∙ ap (λ (v : Verdict). and_then v (verdict later)) e)

pub decides : (rows later : List Check) {v : Verdict} → verdict rows ≡ Ok tt → v ≡ verdict later → v ≡ verdict (rows ++ later)
decides rows later e f = f ∙ sym (verdict_join rows later ∙ ap (λ (v : Verdict). and_then v (verdict later)) e)
