-- Walking a log: a reader made from it finds its records in order, then its short tail if it has one, then the end for ever; and it looks at each place
-- once, in order, until it stays at the end. So no place is skipped and none is read twice.
-- Assumes nothing.
use mathlib.Core.{Path.{◌≡◌, refl, ap, sym, ◌∙◌}, Bool.{Bool, true, false, ◌&&◌}, List.{List, ◌∷◌, ◌++◌}}
use Prim.Native.Nat.{ℕ, zero, suc, ◌≤◌, ◌<◌, ◌+◌}
use native.Mathlib.{Nat.{zero-add, add-zero}, Omega.arith}
use borrow.Author.Tests.{eq-eqb, ne_eqb}
use lib.ListN.{length, replicate}
use denote.Ref.{Bor}
use Rattle.rules.{specs.Tests.◌=?◌, specs.Log.{entry_of, records_in, record_at, short_tail}}
use Rattle.log_reader.specs.{declared.Found.Found, declared.Found.TheVariants.{Record, Short, End}, declared.Stood.Stood}
use Rattle.log_reader.specs.{Reader.{stands, stood_at, reader_at, reader_of}, Walk.{walk, records_from, tail_at, tail_of, end_of}}
use Rattle.log_reader.proofs.Places.{at_record, at_tail, at_end}

module _ (log : Bor (List ℕ)) where
  -- one step, where it is known what stands at the place
  step : (steps j : ℕ) {found : Found} {next : ℕ} → stood_at log.now j ≡ stands found next
      → walk (suc steps) (reader_at log j) ≡ (j, found) ∷ walk steps (reader_at log next)
  step steps j e = ap (λ (s : Stood). (j, s.found) ∷ walk steps (reader_at log s.place)) e

  -- where the end stands it stands for ever
  stays : (steps j : ℕ) → stood_at log.now j ≡ stands End j → walk steps (reader_at log j) ≡ replicate steps (j, End)
  stays zero j e = refl
  stays (suc steps) j e = step steps j e ∙ ap (λ (l : List (ℕ × Found)). (j, End) ∷ l) (stays steps j e)

  -- the records from j on
  over_records : (left j steps : ℕ) → j + left ≤ records_in log.now
      → walk (left + steps) (reader_at log j) ≡ records_from log.now j left ++ walk steps (reader_at log (j + left))
  over_records zero j steps h =
      let none : 0 + steps ≡ steps = zero-add steps in
      let here : j ≡ j + 0 = sym (add-zero j) in
      λ i. walk (none i) (reader_at log (here i))
  over_records (suc left) j steps h =
      let here : j < records_in log.now = omega arith in
      let one : suc left + steps ≡ suc (left + steps) = omega arith in
      let next : j + 1 ≡ suc j = omega arith in
      let last : suc j + left ≡ j + suc left = omega arith in
      let found = Record (entry_of (record_at log.now j)) in
      ap (λ (k : ℕ). walk k (reader_at log j)) one
      ∙ step (left + steps) j (at_record log.now j here ∙ ap (stands found) next)
      ∙ ap (λ (l : List (ℕ × Found)). (j, found) ∷ l)
      (over_records left (suc j) steps (omega arith)
      ∙ ap (λ (k : ℕ). records_from log.now (suc j) left ++ walk steps (reader_at log k)) last)

  abbrev count : ℕ
  count = records_in log.now

  -- past the records: the tail, if there is one, and then the end
  over_tail : (steps : ℕ) (short : Bool) → short_tail log.now ≡ short
      → walk (length (tail_at count short) + steps) (reader_at log count) ≡ tail_at count short ++ replicate steps (count + length (tail_at count short), End)
  over_tail steps true e =
      let here : (count =? count && short_tail log.now) ≡ true = ap (λ (t : Bool). t && short_tail log.now) (eq-eqb count count refl) ∙ e in
      let past : (count + 1 =? count && short_tail log.now) ≡ false = ap (λ (t : Bool). t && short_tail log.now) (ne_eqb (count + 1) count (omega arith)) in
      let one : 1 + steps ≡ suc steps = omega arith in
      ap (λ (k : ℕ). walk k (reader_at log count)) one
      ∙ step steps count (at_tail log.now count (omega arith) here)
      ∙ ap (λ (l : List (ℕ × Found)). (count, Short) ∷ l) (stays steps (count + 1) (at_end log.now (count + 1) (omega arith) past))
  over_tail steps false e =
      let past : (count =? count && short_tail log.now) ≡ false = ap (λ (t : Bool). t && short_tail log.now) (eq-eqb count count refl) ∙ e in
      ap (λ (k : ℕ). walk k (reader_at log count)) (zero-add steps)
      ∙ stays steps count (at_end log.now count (omega arith) past)
      ∙ ap (λ (k : ℕ). replicate steps (k, End)) (sym (add-zero count))

  -- The walk of a log: its records, its tail, and then the end, however many steps more.
  pub walked : (more : ℕ)
      → walk (end_of log.now + more) (reader_of log) ≡ records_from log.now 0 count ++ (tail_of log.now ++ replicate more (end_of log.now, End))
  walked more =
      let all : end_of log.now + more ≡ count + (length (tail_of log.now) + more) = omega arith in
      let none : 0 + count ≡ count = zero-add count in
      ap (λ (k : ℕ). walk k (reader_of log)) all
      ∙ over_records count 0 (length (tail_of log.now) + more) (omega arith)
      ∙ ap (λ (l : List (ℕ × Found)). records_from log.now 0 count ++ l)
      (ap (λ (k : ℕ). walk (length (tail_of log.now) + more) (reader_at log k)) none ∙ over_tail more (short_tail log.now) refl)
