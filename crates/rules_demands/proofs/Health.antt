-- T-04 written out: words stand in the order of their heights; the rest from its theorem. Its examples, by computation over the definitions.
-- Assumes nothing.
use Prim.Native.Nat.{ℕ, ◌+◌, ◌-◌, ◌<◌}
use mathlib.Core.{Path.{◌≡◌, refl, sym, ◌∙◌}, Bool.{Bool, true, false}}
use native.Mathlib.Omega.{arith}
use borrow.Author.Tests.{lt-ltb, le-ltb, leb-true, leb-false, ltb-true}
use Rattle.rules.specs.{Tests.{◌<?◌}, Health.{size, negative, above, trips}}
use Rattle.rules.proofs.page.Health.{request_T04}
use Rattle.rules_demands.specs.Health.{height, HealthWrittenOut, HealthHeld}

-- the same test, of numbers that stand in the same order
same_order : (a b c d : ℕ) → (a < b → c < d) → (c < d → a < b) → (a <? b) ≡ (c <? d)
same_order a b c d there back = go (a <? b) refl (c <? d) refl
  where
    go : (x : Bool) → (a <? b) ≡ x → (y : Bool) → (c <? d) ≡ y → (a <? b) ≡ (c <? d)
    go true e y f = e ∙ sym (lt-ltb c d (there (ltb-true a b e)))
    go false e true f = lt-ltb a b (back (ltb-true c d f)) ∙ sym f
    go false e false f = e ∙ sym f

higher : (word other : ℕ) → word < 65536 → other < 65536 → above word other ≡ (height other <? height word)
unfolding above
higher word other w o = go (negative word) refl (negative other) refl
  where
    go : (x : Bool) → negative word ≡ x → (y : Bool) → negative other ≡ y → above word other ≡ (height other <? height word)
    go true e true f =
        let a = leb-true 32768 word e in
        let b = leb-true 32768 other f in
        rw (e, f) (same_order (size word) (size other) (65535 - other) (65535 - word) (λ l. omega arith) (λ l. omega arith))
    go true e false f =
        let a = leb-true 32768 word e in
        rw (e, f) (sym (le-ltb (32767 + other) (65535 - word) (omega arith)))
    go false e true f =
        let a = leb-false 32768 word e in
        let b = leb-true 32768 other f in
        rw (e, f) (same_order 0 (size word + size other) (65535 - other) (32767 + word) (λ l. omega arith) (λ l. omega arith))
    go false e false f =
        let a = leb-false 32768 word e in
        let b = leb-false 32768 other f in
        rw (e, f) (same_order (size other) (size word) (32767 + other) (32767 + word) (λ l. omega arith) (λ l. omega arith))

pub written_out : HealthWrittenOut
written_out =
    record {
      higher = higher;
      above_only = λ word other. (request_T04.in_order word other).0;
      above_where = λ word other. (request_T04.in_order word other).1;
      minus_zero = request_T04.minus_zero;
      bit_0_only = λ h r. (request_T04.spare_trips_law h r).0;
      bit_0_where = λ h r enabled below. (request_T04.spare_trips_law h r).1 (enabled, below);
      bit_1_only = λ h r. (request_T04.media_trips_law h r).0;
      bit_1_where = λ h r enabled past. (request_T04.media_trips_law h r).1 (enabled, past);
      bit_2_only = λ h r. (request_T04.controller_trips_law h r).0;
      bit_2_where = λ h r enabled past. (request_T04.controller_trips_law h r).1 (enabled, past);
      three_bits = request_T04.no_other_bit;
    }

pub health_held : HealthHeld
unfolding above trips
health_held = record { measures = refl; words = refl; beside_8000h = refl; each = refl; at_threshold = refl; alone = refl; bytes = refl }
