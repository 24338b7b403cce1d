-- Any two results that the promise of a tick in place allows agree: one reply, and one record behind the reference.
-- Assumes nothing.
use mathlib.Core.Path.{◌≡◌, sym, ◌∙◌}
use Rattle.rules.{specs.Record.Whole, specs.declared.Cabinet.Cabinet, specs.declared.Reply.Reply}
use Rattle.cabinet_clock.specs.InPlace.{TickedInPlace}

pub agree : (before : Whole) (reply₁ reply₂ : Reply) (after₁ after₂ : Cabinet)
    → TickedInPlace before reply₁ after₁ → TickedInPlace before reply₂ after₂
    → (reply₁ ≡ reply₂) × (after₁ ≡ after₂)
agree before reply₁ reply₂ after₁ after₂ p q = (p.reply_is ∙ sym q.reply_is, p.cabinet_is ∙ sym q.cabinet_is)
