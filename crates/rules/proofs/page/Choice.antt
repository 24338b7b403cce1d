-- What the outcome of tests that are joined says of each.
-- Assumes nothing.
use mathlib.Core.{Path.{◌≡◌, refl}, Bool.{Bool, true, false, ◌&&◌, ◌||◌, false≢true, true≢false}}
use Rattle.std.specs.Prelude.{if◌then◌else◌}

pub or_false : (a b : Bool) → (a || b) ≡ false → (a ≡ false) × (b ≡ false)
or_false true b e = absurd (true≢false e)
or_false false b e = (refl, e)

pub and_true : (a b : Bool) → (a && b) ≡ true → (a ≡ true) × (b ≡ true)
and_true true b e = (refl, e)
and_true false b e = absurd (false≢true e)

-- what holds of both ways holds of the choice
pub if_both : {A : Type 0} (P : A → Type 0) (t : Bool) {a b : A} → P a → P b → P (if t then a else b)
if_both P true p q = p
if_both P false p q = q

-- tests that are joined and true are each true
pub and_3 : (a b c : Bool) → (a && b && c) ≡ true → (a ≡ true) × (b ≡ true) × (c ≡ true)
and_3 a b c e = let p = and_true (a && b) c e in let q = and_true a b p.0 in (q.0, q.1, p.1)

pub and_4 : (a b c d : Bool) → (a && b && c && d) ≡ true → (a ≡ true) × (b ≡ true) × (c ≡ true) × (d ≡ true)
and_4 a b c d e = let p = and_true (a && b && c) d e in let q = and_3 a b c p.0 in (q.0, q.1, q.2, p.1)

pub and_5 : (a b c d e : Bool) → (a && b && c && d && e) ≡ true → (a ≡ true) × (b ≡ true) × (c ≡ true) × (d ≡ true) × (e ≡ true)
and_5 a b c d e h = let p = and_true (a && b && c && d) e h in let q = and_4 a b c d p.0 in (q.0, q.1, q.2, q.3, p.1)

pub and_6 : (a b c d e f : Bool) → (a && b && c && d && e && f) ≡ true
    → (a ≡ true) × (b ≡ true) × (c ≡ true) × (d ≡ true) × (e ≡ true) × (f ≡ true)
and_6 a b c d e f h =
    let p = and_true (a && b && c && d && e) f h in
    let q = and_true (a && b && c && d) e p.0 in
    let r = and_true (a && b && c) d q.0 in
    let s = and_3 a b c r.0 in
    (s.0, s.1, s.2, r.1, q.1, p.1)

pub or_true : (a b : Bool) → b ≡ true → (a || b) ≡ true
or_true true b e = refl
or_true false b e = e
