-- Any two results that a promise allows agree: one number, one record, one area, one answer buffer.
-- Assumes nothing.
use mathlib.Core.{Path.{◌≡◌, sym, ◌∙◌}, List.List}
use Prim.Native.Nat.{ℕ}
use lib.IntN.{ℤ}
use Rattle.rules.specs.Cabinet.{Result}
use Rattle.abi.specs.Abi.{Called, Happened, Made, Adopted}

pub calls_agree : (result : Result) (bytes : List ℕ) {m n : ℤ} {bytes₁ bytes₂ area₁ area₂ answer₁ answer₂ : List ℕ}
    → Called result bytes m bytes₁ area₁ answer₁ → Called result bytes n bytes₂ area₂ answer₂
    → (m ≡ n) × (bytes₁ ≡ bytes₂) × (area₁ ≡ area₂) × (answer₁ ≡ answer₂)
calls_agree result bytes p q = (
  p.number_is ∙ sym q.number_is,
  p.record_is ∙ sym q.record_is,
  p.area_is ∙ sym q.area_is,
  p.answer_is ∙ sym q.answer_is,
)

pub events_agree : (result : Result) (bytes : List ℕ) {m n : ℤ} {bytes₁ bytes₂ : List ℕ}
    → Happened result bytes m bytes₁ → Happened result bytes n bytes₂ → (m ≡ n) × (bytes₁ ≡ bytes₂)
events_agree result bytes p q = (p.number_is ∙ sym q.number_is, p.record_is ∙ sym q.record_is)

pub fresh_agree : (bytes : List ℕ) {m n : ℤ} {bytes₁ bytes₂ : List ℕ} → Made bytes m bytes₁ → Made bytes n bytes₂ → (m ≡ n) × (bytes₁ ≡ bytes₂)
fresh_agree bytes p q = (p.number_is ∙ sym q.number_is, p.record_is ∙ sym q.record_is)

pub adopted_agree : (old bytes : List ℕ) {m n : ℤ} {bytes₁ bytes₂ : List ℕ} → Adopted old bytes m bytes₁ → Adopted old bytes n bytes₂ → (m ≡ n) × (bytes₁ ≡ bytes₂)
adopted_agree old bytes p q = (p.number_is ∙ sym q.number_is, p.record_is ∙ sym q.record_is)
