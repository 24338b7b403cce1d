-- Vocabulary: tests that come out true or false, as the page's sentences use them. The choice by a test, `if t then a else b`, is the library's.
-- Assumes nothing.
use Rattle.std.specs.Prelude.{ℕ, Bool, not, ◌||◌, eqb, leb, ltb}

infix 40 ◌≤?◌ ◌<?◌ ◌=?◌
abbrev pub ◌≤?◌ : ℕ → ℕ → Bool
m ≤? n = leb m n

abbrev pub ◌<?◌ : ℕ → ℕ → Bool
m <? n = ltb m n

abbrev pub ◌=?◌ : ℕ → ℕ → Bool
m =? n = eqb m n

-- where the first is true, the second is true
infix 25 ◌implies◌ ◌unless◌
abbrev pub ◌implies◌ : Bool → Bool → Bool
a implies b = not a || b

-- where the second is not true, the first is. The page's "N unless X" in a function's checks is written `not X gives N`.
abbrev pub ◌unless◌ : Bool → Bool → Bool
a unless b = b || a
