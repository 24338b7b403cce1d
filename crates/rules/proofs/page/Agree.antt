-- Any two results that a promise of the form "the result is .." allows agree: where a promise is plain equations, one for each thing that comes out, this is
-- its theorem. docs/DECISIONS.md (h) lists the others, each with a theorem of its own.
-- Assumes nothing.
use mathlib.Core.Path.{◌≡◌, sym, ◌∙◌}

pub one_result {ℓ} : {A : Type ℓ} {x y z : A} → x ≡ z → y ≡ z → x ≡ y
one_result p q = p ∙ sym q
