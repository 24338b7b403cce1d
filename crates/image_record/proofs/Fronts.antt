-- Laws of a record's front: it tests what number, count and version test.
-- Assumes nothing.
use mathlib.Core.{Path.{◌≡◌, refl, sym, ◌∙◌, ap}, Bool.{Bool, true, false, ◌&&◌}, List.List}
use Rattle.std.proofs.Common.{ℕ, ◌+◌, ◌*◌, ◌^◌, ◌<◌, ◌≤◌, length, drop, arith, eq-eqb, ne_eqb, eqb-true}
use borrow.Author.Tests.{eqb-false}
use Rattle.rules.{specs.Bytes.{number_at, AreBytes}, specs.Image.good_record, specs.Fault.sum_test, specs.Tests.◌=?◌, proofs.page.Le.drop_bytes}
use Rattle.image_record.specs.Front.{front_of, good_behind}
use Rattle.image_record.proofs.Numbers.{small, first_half}

and_false : (a : Bool) → (a && false) ≡ false
and_false true = refl
and_false false = refl

-- the three fields that a front and a version hold, of a record with the version: the front is right exactly where number and count are
module _ (i n a b c d : ℕ) (i_fits : i < 65536) (n_fits : n < 65536) (a_fits : a < 65536) (b_fits : b < 65536) (c_fits : c < 2 ^ 32) where
  abbrev held : ℕ
  held = a + 65536 * (b + 65536 * c)

  abbrev right : ℕ
  right = front_of i n (c + 2 ^ 32 * d)

  fields : (held =? right) ≡ ((a =? i) && (b =? n))
  fields = go (a =? i) (b =? n) refl refl
    where
      go : (t u : Bool) → (a =? i) ≡ t → (b =? n) ≡ u → (held =? right) ≡ (t && u)
      go true true e f = eq-eqb held right (omega (arith, eqb-true a i e, eqb-true b n f, c_fits))
      go true false e f = ne_eqb held right (λ (q : held ≡ right). eqb-false b n f (omega (arith, q, i_fits, n_fits, a_fits, b_fits, c_fits)))
      go false u e f = ne_eqb held right (λ (q : held ≡ right). eqb-false a i e (omega (arith, q, i_fits, n_fits, a_fits, b_fits, c_fits)))

-- a record is good behind the front of its number, count and version exactly where it is good
pub front_tests : (i n version : ℕ) (bytes : List ℕ) → AreBytes bytes → 12 ≤ length bytes → i < 65536 → n < 65536
    → good_behind (front_of i n version) version bytes ≡ good_record i n version bytes
unfolding good_behind good_record
front_tests i n version bytes are long i_fits n_fits = go (number_at 8 4 bytes =? version) refl
  where
    held_is : number_at 8 0 bytes ≡ number_at 2 0 bytes + 65536 * (number_at 2 2 bytes + 65536 * number_at 4 4 bytes)
    held_is = omega (arith, first_half 6 0 bytes (omega (arith, long)), first_half 4 2 bytes (omega (arith, long)))

    own_is : number_at 8 4 bytes ≡ number_at 4 4 bytes + 2 ^ 32 * number_at 4 8 bytes
    own_is =
        omega (arith, first_half 6 4 bytes (omega (arith, long)), first_half 4 6 bytes (omega (arith, long)), first_half 2 4 bytes (omega (arith, long)))

    tests : version ≡ number_at 4 4 bytes + 2 ^ 32 * number_at 4 8 bytes
        → (number_at 8 0 bytes =? front_of i n version) ≡ ((number_at 2 0 bytes =? i) && (number_at 2 2 bytes =? n))
    tests e =
        (λ k. held_is k =? front_of i n (e k))
        ∙ fields i n (number_at 2 0 bytes) (number_at 2 2 bytes) (number_at 4 4 bytes) (number_at 4 8 bytes) i_fits n_fits
        (small 2 bytes are) (small 2 (drop 2 bytes) (drop_bytes 2 bytes are)) (small 4 (drop 4 bytes) (drop_bytes 4 bytes are))

    go : (t : Bool) → (number_at 8 4 bytes =? version) ≡ t
        → ((number_at 8 0 bytes =? front_of i n version) && t && sum_test bytes) ≡ ((number_at 2 0 bytes =? i) && (number_at 2 2 bytes =? n) && t && sum_test bytes)
    go true e = ap (λ (fields_are : Bool). fields_are && true && sum_test bytes) (tests (sym (eqb-true (number_at 8 4 bytes) version e) ∙ own_is))
    go false e =
        ap (λ (none : Bool). none && sum_test bytes)
        (and_false (number_at 8 0 bytes =? front_of i n version) ∙ sym (and_false ((number_at 2 0 bytes =? i) && (number_at 2 2 bytes =? n))))
