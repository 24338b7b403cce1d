-- What an entry point promises: the reply, the new record, the area and the answer buffer are those of the definition, on refusals too.
-- Assumes nothing.
use mathlib.Core.{Path.◌≡◌, List.List}
use Rattle.std.specs.Prelude.{ℕ}
use Rattle.rules.{specs.Record.{Whole, standing, in_place}, specs.Refusals.answer_after, specs.Module.{Call, accepted_answer, change}, specs.Cabinet.Result}
use Rattle.cabinet.specs.declared.Outcome.{Outcome}

pub record Promised (result : Result) (outcome : Outcome) (area answer : List ℕ) : Type 0 where
  pub reply_is : outcome.reply ≡ result.reply
  pub cabinet_is : outcome.cabinet ≡ result.after.cabinet
  pub area_is : area ≡ result.after.area
  pub answer_is : answer ≡ result.answer

-- what an accepted call comes to: the cabinet and the answer buffer after it
pub record Served (was : Whole) (named : ℕ) (asked : Call) (answer : List ℕ) (after : Whole) (answer' : List ℕ) : Type 0 where
  pub after_is : after ≡ in_place named (change (standing named was) asked) was
  pub answer_is : answer' ≡ answer_after (accepted_answer (standing named was) asked) answer
