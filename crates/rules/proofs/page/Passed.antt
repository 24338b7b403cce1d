-- What a verdict says of the rows: an accepted event made every test false, a refusal is one of the rows' own, and rows that are joined are judged one part
-- after the other. The laws go by the row that refuses, whatever its number is.
-- Assumes nothing.
use mathlib.Core.{Path.{◌≡◌, refl, sym, ◌∙◌, ap}, Bool.{Bool, true, false, ◌&&◌, true≢false}, List.{[], List, ◌∷◌, ◌++◌}}
use Rattle.rules.specs.{Refusals.{Check, ◌gives◌, verdict, refused?}}
use Rattle.rules.proofs.page.Choice.{and_true}
use Rattle.rules.specs.Refusals.{Verdict}
use Rattle.std.specs.Prelude.{Ok, Err}

abbrev pub AllFalse : List Check → Type 0
AllFalse [] = Unit {0}
AllFalse ((test gives refusal) ∷ rows) = (test ≡ false) × AllFalse rows

pub passed : (rows : List Check) → verdict rows ≡ Ok tt → AllFalse rows
unfolding verdict
passed [] e = tt
passed ((true gives refusal) ∷ rows) e = absurd (true≢false (ap refused? e))
passed ((false gives refusal) ∷ rows) e = (refl, passed rows e)

-- what holds of acceptance and of every row's refusal holds of the verdict
abbrev pub every : (Verdict → Bool) → List Check → Bool
every good [] = good (Ok tt)
every good ((test gives refusal) ∷ rows) = good (Err refusal) && every good rows

pub by_rows : (good : Verdict → Bool) (rows : List Check) → every good rows ≡ true → good (verdict rows) ≡ true
unfolding verdict
by_rows good [] e = e
by_rows good ((true gives refusal) ∷ rows) e = (and_true (good (Err refusal)) (every good rows) e).0
by_rows good ((false gives refusal) ∷ rows) e = by_rows good rows (and_true (good (Err refusal)) (every good rows) e).1

-- none of the rows gives the verdict
abbrev pub NotBy : List Check → Verdict → Type 0
NotBy [] v = Unit {0}
NotBy ((test gives refusal) ∷ rows) v = (v ≡ Err refusal → ⊥) × NotBy rows v

-- a verdict that none of the first rows gives: all of them were passed, and the later ones gave it
pub past_rows : (rows later : List Check) (v : Verdict) → verdict (rows ++ later) ≡ v → NotBy rows v → AllFalse rows × (verdict later ≡ v)
unfolding verdict
past_rows [] later v e n = (tt, e)
past_rows ((true gives refusal) ∷ rows) later v e n = absurd (n.0 (sym e))
past_rows ((false gives refusal) ∷ rows) later v e n = let q = past_rows rows later v e n.1 in ((refl, q.0), q.1)

-- where the first rows accept, the later ones decide
abbrev pub and_then : Verdict → Verdict → Verdict
and_then (Ok tt) v = v
and_then (Err refusal) v = Err refusal

pub verdict_join : (rows later : List Check) → verdict (rows ++ later) ≡ and_then (verdict rows) (verdict later)
unfolding verdict
verdict_join [] later = refl
verdict_join ((true gives refusal) ∷ rows) later = refl
verdict_join ((false gives refusal) ∷ rows) later = verdict_join rows later

-- joined rows that accept have both accepted
pub both_accepted : (rows later : List Check) → verdict (rows ++ later) ≡ Ok tt → (verdict rows ≡ Ok tt) × (verdict later ≡ Ok tt)
both_accepted rows later e = go (verdict rows) (sym (verdict_join rows later) ∙ e)
  where
    go : (v : Verdict) → and_then v (verdict later) ≡ Ok tt → (v ≡ Ok tt) × (verdict later ≡ Ok tt)
    go (Ok tt) h = (refl, h)
    go (Err refusal) h = absurd (true≢false (ap refused? h))
