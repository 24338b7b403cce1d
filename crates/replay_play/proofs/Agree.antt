-- Any two results that the promise of a playing function allows agree: one text, one area, one place and one record.
-- Assumes nothing.
use mathlib.Core.{Path.{◌≡◌, sym, ◌∙◌, ap}, List.List}
use Prim.Native.Nat.{ℕ}
use Rattle.rules.specs.Record.{Whole}
use Rattle.replay_play.specs.{declared.Played.Played, Replayed.Replayed}
use Rattle.text.proofs.Agree as text

pub agree : (most : ℕ) (lines : List ℕ) (w : Whole) (old : List ℕ) (at : ℕ) {new₁ new₂ area₁ area₂ : List ℕ} {p₁ p₂ : Played}
    → Replayed most lines w old at new₁ area₁ p₁ → Replayed most lines w old at new₂ area₂ p₂
    → (new₁ ≡ new₂) × (area₁ ≡ area₂) × (p₁ ≡ p₂)
agree most lines w old at p q =
    let wrote = text.agree old at lines p.wrote q.wrote in
    let same = p.whole_is ∙ sym q.whole_is in
    (wrote.0, ap (λ (x : Whole). x.area) same, λ i. record { at = wrote.1 i; cabinet = (same i).cabinet })
