-- Any two results that the promise of a writing function allows agree: one buffer, and one place after the text.
-- Assumes nothing.
use mathlib.Core.{Path.{◌≡◌, sym, ◌∙◌}, List.List}
use Prim.Native.Nat.{ℕ}
use Rattle.text.specs.Wrote.{Wrote}

pub agree : (old : List ℕ) (at : ℕ) (text : List ℕ) {new₁ new₂ : List ℕ} {next₁ next₂ : ℕ}
    → Wrote old at text new₁ next₁ → Wrote old at text new₂ next₂
    → (new₁ ≡ new₂) × (next₁ ≡ next₂)
agree old at text p q = (p.new_is ∙ sym q.new_is, p.next_is ∙ sym q.next_is)
