-- Any two results that an entry point's promise allows agree: one reply, one record, one area, one answer buffer.
-- Assumes nothing.
use mathlib.Core.{Path.{◌≡◌, sym, ◌∙◌}, List.List}
use Prim.Native.Nat.{ℕ}
use Rattle.rules.specs.Cabinet.{Result}
use Rattle.cabinet.specs.{declared.Outcome.Outcome, Promise.Promised}

pub agree : (result : Result) (o₁ o₂ : Outcome) (area₁ area₂ answer₁ answer₂ : List ℕ)
    → Promised result o₁ area₁ answer₁ → Promised result o₂ area₂ answer₂
    → (o₁ ≡ o₂) × (area₁ ≡ area₂) × (answer₁ ≡ answer₂)
agree result o₁ o₂ area₁ area₂ answer₁ answer₂ p q = (
  λ i. record { cabinet = (p.cabinet_is ∙ sym q.cabinet_is) i; reply = (p.reply_is ∙ sym q.reply_is) i },
  p.area_is ∙ sym q.area_is,
  p.answer_is ∙ sym q.answer_is,
)
