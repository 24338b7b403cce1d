-- What an answer buffer holds plays no part in a call's reply and in the cabinet after it: only its length does.
-- Assumes nothing.
use mathlib.Core.{Path.{◌≡◌, refl, ap, subst}, List.{List, ◌∷◌, ◌++◌}}
use Prim.Native.Nat.{ℕ}
use lib.ListN.{length}
use Rattle.rules.{specs.Tests.◌<?◌, specs.Numbers.answer_room, specs.Record.{Whole, standing}, specs.Refusals.{◌gives◌, verdict, event_checks}}
use Rattle.rules.{specs.Table.{row_of, served_check, length_check}, specs.Module.{Call, call_in, checks}, specs.Cabinet.{Result, outcome, call_result}}
use Rattle.rules.{specs.declared.Refusal.TheVariants.{R, Status}}
use Rattle.rules.specs.Refusals.{Verdict}
use Rattle.std.specs.Prelude.{Ok, Err}

-- two results that differ in the answer buffer alone
pub record Alike (x y : Result) : Type 0 where
  pub reply_is : x.reply ≡ y.reply
  pub after_is : x.after ≡ y.after

module _ (w : Whole) (named revision index : ℕ) (request a b : List ℕ) where
  abbrev made : Call
  made = call_in revision index request

  -- the verdict on a call whose answer buffer has so much room
  abbrev judged : (room : ℕ) → Verdict
  judged room =
      verdict ((room <? answer_room gives R 1) ∷ event_checks w named ++ (served_check revision index ∷ length_check index request ∷ checks (standing named w) made))

  alike : (v : Verdict) → Alike (outcome v w named made (row_of index).answer a) (outcome v w named made (row_of index).answer b)
  alike (Ok tt) = record { reply_is = refl; after_is = refl }
  alike (Err (R number)) = record { reply_is = refl; after_is = refl }
  alike (Err (Status status ext)) = record { reply_is = refl; after_is = refl }

  pub any_buffer : length a ≡ length b → Alike (call_result w named revision index request a) (call_result w named revision index request b)
  unfolding call_result
  any_buffer same =
      subst (λ (v : Verdict). Alike (outcome (judged (length a)) w named made (row_of index).answer a) (outcome v w named made (row_of index).answer b)) (ap judged same)
      (alike (judged (length a)))
