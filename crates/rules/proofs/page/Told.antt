-- What a match tells: what holds of the function that an arm names holds of the function that was matched.
-- Assumes nothing.
use mathlib.Core.{Path.{◌≡◌, sym, ◌∙◌, ap, subst}, List.List}
use Prim.Native.Nat.{ℕ}
use Rattle.rules.specs.{Refusals.{verdict, answer_after}, Record.Module, Module.{call_of, checks, accepted_answer, change}}
use Rattle.rules.specs.{declared.Function.Function}
use Rattle.rules.proofs.page.Fitting.{Fitting}
use Rattle.rules.specs.Refusals.{Verdict}
use Rattle.std.specs.Prelude.{Ok}

-- the bytes that the function reads are there
pub there : {f g : Function} (size : ℕ) → f ≡ g → Fitting f size → Fitting g size
there size e fits = subst (λ (h : Function). Fitting h size) e fits

module _ (m : Module) (revision : ℕ) (request : List ℕ) where
  pub judged : {f g : Function} {v : Verdict} → f ≡ g → v ≡ verdict (checks m (call_of g revision request)) → v ≡ verdict (checks m (call_of f revision request))
  judged e h = h ∙ sym (ap (λ (k : Function). verdict (checks m (call_of k revision request))) e)

  pub passed : {f g : Function} → f ≡ g → verdict (checks m (call_of f revision request)) ≡ Ok tt → verdict (checks m (call_of g revision request)) ≡ Ok tt
  passed e h = sym (ap (λ (k : Function). verdict (checks m (call_of k revision request))) e) ∙ h

  pub changed : {f g : Function} {n : Module} → f ≡ g → n ≡ change m (call_of g revision request) → n ≡ change m (call_of f revision request)
  changed e h = h ∙ sym (ap (λ (k : Function). change m (call_of k revision request)) e)

  pub answered : (answer : List ℕ) {f g : Function} {after : List ℕ} → f ≡ g → after ≡ answer_after (accepted_answer m (call_of g revision request)) answer
      → after ≡ answer_after (accepted_answer m (call_of f revision request)) answer
  answered answer e h = h ∙ sym (ap (λ (k : Function). answer_after (accepted_answer m (call_of k revision request)) answer) e)
