-- The text of a list's entries is that of the differences which they stand for: an entry has the place and a bit for each field, and the bits are six.
-- Assumes nothing.
use Prim.Native.Nat.{ℕ, zero, suc, ◌+◌, ◌*◌, ◌/◌, ◌%◌, ◌≤◌, ◌<◌}
use Prim.Native.String.{String}
use mathlib.Core.{Path.{◌≡◌, refl, sym, ◌∙◌, ap}, Bool.{Bool, true, false, not}, List.{List, [], ◌∷◌, ◌++◌}}
use native.Mathlib.{Omega.arith}
use borrow.Author.Tests.{leb-true, leb-false}
use lib.{ListN.{length, take, drop}, Seq.take_at}
use Rattle.std.specs.Prelude.{if◌then◌else◌}
use Rattle.rules.{specs.Tests.{◌≤?◌, ◌=?◌}, specs.Bytes.same?, specs.Text.{ascii, decimal, field}, specs.Log.{record_at, kind_bytes, host_bytes, revision_bytes, function_bytes, length_bytes, request_bytes}}
use Rattle.rules.specs.Compare.{fields_differing, Difference, difference_at, differences_to, places, compared, differences, leading, left, comparison, field_bits, entry, entries, list_after, field_names, named, difference_line, difference_lines, comparison_text}
use Rattle.rules.proofs.page.Compared.{as_many, request_T06}
use Rattle.compare_text.specs.Lines.{names_of, entry_line, entry_lines, report_text, TextOfReport}
use Rattle.rules.specs.Compare.{Comparison}

-- no name for no bit
no_names : (names : List String) → names_of 0 names ≡ []
no_names [] = refl
no_names (name ∷ names) = no_names names

-- a name for each field that differs
names_told : (fields : List Bool) (names : List String) → names_of (field_bits fields) names ≡ named fields names
names_told [] names = no_names names
names_told (differs ∷ fields) [] = refl
names_told (true ∷ fields) (name ∷ names) =
    let low : (1 + 2 * field_bits fields) % 2 ≡ 1 = omega arith in
    let high : (1 + 2 * field_bits fields) / 2 ≡ field_bits fields = omega arith in
    ap (λ (n : ℕ). (if n =? 1 then ascii name else []) ++ names_of ((1 + 2 * field_bits fields) / 2) names) low
    ∙ ap (λ (n : ℕ). ascii name ++ names_of n names) high
    ∙ ap (λ (l : List ℕ). ascii name ++ l) (names_told fields names)
names_told (false ∷ fields) (name ∷ names) =
    let low : (0 + 2 * field_bits fields) % 2 ≡ 0 = omega arith in
    let high : (0 + 2 * field_bits fields) / 2 ≡ field_bits fields = omega arith in
    ap (λ (n : ℕ). (if n =? 1 then ascii name else []) ++ names_of ((0 + 2 * field_bits fields) / 2) names) low
    ∙ ap (λ (n : ℕ). names_of n names) high
    ∙ names_told fields names

-- six fields have six bits
bit : (differs : Bool) → (if differs then 1 else 0) ≤ 1
bit true = omega arith
bit false = omega arith

six_bits : (x y : List ℕ) → field_bits (fields_differing x y) ≤ 63
six_bits x y =
    go (not (same? (kind_bytes x) (kind_bytes y))) (not (same? (host_bytes x) (host_bytes y))) (not (same? (revision_bytes x) (revision_bytes y)))
    (not (same? (function_bytes x) (function_bytes y))) (not (same? (length_bytes x) (length_bytes y))) (not (same? (request_bytes x) (request_bytes y)))
  where
    go : (a b c d e f : Bool) → field_bits (a ∷ b ∷ c ∷ d ∷ e ∷ f ∷ []) ≤ 63
    go a b c d e f = omega (arith, bit a, bit b, bit c, bit d, bit e, bit f)

abbrev Six : List Difference → Type 0
Six [] = Unit {0}
Six (d ∷ ds) = (field_bits d.fields ≤ 63) × Six ds

six_both : (xs ys : List Difference) → Six xs → Six ys → Six (xs ++ ys)
six_both [] ys p q = q
six_both (d ∷ xs) ys p q = (p.0, six_both xs ys p.1 q)

six : (number : ℕ) (first second : List ℕ) (j : ℕ) → Six (differences_to number first second j)
unfolding differences_to
six number first second zero = tt
six number first second (suc j) =
    six_both (differences_to number first second j) (difference_at (number + j) (record_at first j) (record_at second j)) (six number first second j)
    (go (same? (record_at first j) (record_at second j)))
  where
    go : (t : Bool) → Six (if t then [] else record { place = number + j; fields = fields_differing (record_at first j) (record_at second j) } ∷ [])
    go true = tt
    go false = (six_bits (record_at first j) (record_at second j), tt)

-- an entry's line
line_told : (d : Difference) → field_bits d.fields ≤ 63 → entry_line (entry d) ≡ difference_line d
unfolding entry_line
line_told d h =
    let place : entry d / 64 ≡ d.place = omega arith in
    let bits : entry d % 64 ≡ field_bits d.fields = omega arith in
    ap (λ (n : ℕ). decimal n ++ names_of (entry d % 64) field_names ++ ascii "\n") place
    ∙ ap (λ (n : ℕ). decimal d.place ++ names_of n field_names ++ ascii "\n") bits
    ∙ ap (λ (l : List ℕ). decimal d.place ++ l ++ ascii "\n") (names_told d.fields field_names)

lines_told : (ds : List Difference) → Six ds → entry_lines (entries ds) ≡ difference_lines ds
lines_told [] s = refl
lines_told (d ∷ ds) s = ap (λ (l : List ℕ). l ++ entry_lines (entries ds)) (line_told d s.0) ∙ ap (λ (l : List ℕ). difference_line d ++ l) (lines_told ds s.1)

pub text_of_report : TextOfReport
text_of_report first second list = go (length (differences first second) ≤? length list) refl
  where
    go : (t : Bool) → (length (differences first second) ≤? length list) ≡ t
        → report_text (comparison first second (length list)) (list_after first second list) ≡ comparison_text (comparison first second (length list)) (differences first second)
    go true e =
        let h : length (differences first second) ≤ length list = leb-true (length (differences first second)) (length list) e in
        let front : take (length (differences first second)) (list_after first second list) ≡ entries (differences first second) =
        ap (take (length (differences first second))) ((request_T06 first second).list_written list h)
        ∙ take_at (entries (differences first second)) (drop (length (differences first second)) list) (length (differences first second)) (as_many (differences first second)) in
        let all : entry_lines (take (length (differences first second)) (list_after first second list)) ≡ difference_lines (differences first second) =
        ap entry_lines front ∙ lines_told (differences first second) (six 0 (compared first second) (compared second first) (places first second)) in
        ap (λ (r : Comparison). report_text r (list_after first second list)) ((request_T06 first second).holds (length list) h)
        ∙ ap (λ (l : List ℕ). ascii "leading " ++ field (leading first second) "\n" ++ l ++ ascii "left " ++ field (left first second) "\n") all
        ∙ ap (λ (r : Comparison). comparison_text r (differences first second)) (sym ((request_T06 first second).holds (length list) h))
    go false e =
        let h : length list < length (differences first second) = leb-false (length (differences first second)) (length list) e in
        ap (λ (r : Comparison). report_text r (list_after first second list)) ((request_T06 first second).full (length list) h)
        ∙ ap (λ (r : Comparison). comparison_text r (differences first second)) (sym ((request_T06 first second).full (length list) h))
