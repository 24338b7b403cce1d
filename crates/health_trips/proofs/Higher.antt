-- A word is above another where it is higher.
-- Assumes nothing.
use mathlib.Core.{Path.{◌≡◌, refl, sym, ◌∙◌}, Bool.{Bool, true, false, ◌&&◌}}
use Prim.Native.Nat.{ℕ, ◌+◌, ◌-◌, ◌%◌, ◌<◌}
use native.Mathlib.Omega.{arith}
use borrow.Author.Tests.{lt-ltb, le-ltb, ltb-true, ltb-false, leb-true, leb-false}
use Rattle.std.specs.Prelude.{if◌then◌else◌}
use Rattle.rules.{specs.Tests.{◌<?◌}, specs.Health.{size, negative, above}}
use Rattle.health_trips.specs.Heights.{height}

-- two comparisons that hold together come out the same
alike : (a b m n : ℕ) → (a < b → m < n) → (m < n → a < b) → (a <? b) ≡ (m <? n)
alike a b m n to from = go (a <? b) refl (m <? n) refl
  where
    go : (t : Bool) → (a <? b) ≡ t → (u : Bool) → (m <? n) ≡ u → (a <? b) ≡ (m <? n)
    go true p u q = p ∙ sym (lt-ltb m n (to (ltb-true a b p)))
    go false p true q = lt-ltb a b (from (ltb-true m n q)) ∙ sym q
    go false p false q = p ∙ sym q

pub higher : (word other : ℕ) → word < 65536 → other < 65536 → (height other <? height word) ≡ above word other
unfolding above
higher word other w o = go (negative word) refl (negative other) refl
  where
    go : (m : Bool) → negative word ≡ m → (n : Bool) → negative other ≡ n
        → ((if n then 65536 - other else 32768 + other) <? (if m then 65536 - word else 32768 + word))
        ≡ (if m then n && size word <? size other else if n then 0 <? size word + size other else size other <? size word)
    go true p true q =
        let a = leb-true 32768 word p in
        let b = leb-true 32768 other q in
        alike (65536 - other) (65536 - word) (size word) (size other) (λ h. omega (arith, a, b, h)) (λ h. omega (arith, a, b, h))
    go true p false q = le-ltb (32768 + other) (65536 - word) (omega (arith, leb-true 32768 word p))
    go false p true q =
        let a = leb-false 32768 word p in
        let b = leb-true 32768 other q in
        alike (65536 - other) (32768 + word) 0 (size word + size other) (λ h. omega (arith, a, b, h)) (λ h. omega (arith, a, b, h))
    go false p false q =
        let a = leb-false 32768 word p in
        let b = leb-false 32768 other q in
        alike (32768 + other) (32768 + word) (size other) (size word) (λ h. omega (arith, a, b, h)) (λ h. omega (arith, a, b, h))
