-- Any two results that the promise of `replay_step::play` allows agree: one area, one record and one reply.
-- Assumes nothing.
use mathlib.Core.{Path.{◌≡◌, sym, ◌∙◌, ap}, List.List}
use Prim.Native.Nat.{ℕ}
use Rattle.rules.specs.Record.{Whole}
use Rattle.cabinet.specs.declared.Outcome.{Outcome}
use Rattle.replay_step.specs.Stepped.{Stepped}

pub agree : (w : Whole) (bytes : List ℕ) {area₁ area₂ : List ℕ} {o₁ o₂ : Outcome} → Stepped w bytes area₁ o₁ → Stepped w bytes area₂ o₂ → (area₁ ≡ area₂) × (o₁ ≡ o₂)
agree w bytes p q =
    let same = p.whole_is ∙ sym q.whole_is in
    let reply = p.reply_is ∙ sym q.reply_is in
    (ap (λ (x : Whole). x.area) same, λ i. record { cabinet = (same i).cabinet; reply = reply i })
