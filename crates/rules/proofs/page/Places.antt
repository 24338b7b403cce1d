-- Document 02, T-06: the laws of bytes that are compared, by parts and by places.
-- Assumes nothing.
use Prim.Native.Nat.{ℕ, zero, suc, ◌+◌, ◌*◌, ◌≤◌, ◌<◌}
use mathlib.Core.{Path.{◌≡◌, refl, sym, ◌∙◌, ap}, Bool.{Bool, true, false, not, ◌&&◌, ◌||◌, false≢true}, List.{List, [], ◌∷◌, ◌++◌}}
use native.Mathlib.{Omega.arith}
use borrow.Author.Tests.{eq-eqb, eqb-true}
use lib.{Dec.eqb, ListN.{length, take, drop, length-take}, Seq.{take_all, take-add, drop-drop}}
use Rattle.rules.specs.{Tests.◌=?◌, Bytes.same?, Log.record_at, Compare.{compared, places_in, equal_at, fields_differing, any?}}

and_assoc : (a b c : Bool) → ((a && b) && c) ≡ (a && (b && c))
and_assoc true b c = refl
and_assoc false b c = refl

pub same_refl : (a : List ℕ) → same? a a ≡ true
unfolding same?
same_refl [] = refl
same_refl (x ∷ a) = rw (eq-eqb x x refl) (same_refl a)

pub same_true : (a b : List ℕ) → same? a b ≡ true → a ≡ b
unfolding same?
same_true [] [] e = refl
same_true [] (y ∷ b) e = absurd (false≢true e)
same_true (x ∷ a) [] e = absurd (false≢true e)
same_true (x ∷ a) (y ∷ b) e = go (eqb x y) refl e (same_true a b)
  where
    go : (t : Bool) → eqb x y ≡ t → (t && same? a b) ≡ true → (same? a b ≡ true → a ≡ b) → (x ∷ a) ≡ (y ∷ b)
    go true p q r = cc (eqb-true x y p, r q)
    go false p q r = absurd (false≢true q)

-- bytes are the same where their first k are, and those past them
same_split : (k : ℕ) (a b : List ℕ) → same? a b ≡ (same? (take k a) (take k b) && same? (drop k a) (drop k b))
unfolding same?
same_split zero a b = refl
same_split (suc k) [] [] = refl
same_split (suc k) [] (y ∷ b) = refl
same_split (suc k) (x ∷ a) [] = refl
same_split (suc k) (x ∷ a) (y ∷ b) =
    ap (λ (t : Bool). x =? y && t) (same_split k a b) ∙ sym (and_assoc (x =? y) (same? (take k a) (take k b)) (same? (drop k a) (drop k b)))

-- one field, with those past it
field_past : (k at : ℕ) (a b : List ℕ) {past : Bool} → past ≡ not (same? (drop (at + k) a) (drop (at + k) b))
    → (not (same? (take k (drop at a)) (take k (drop at b))) || past) ≡ not (same? (drop at a) (drop at b))
field_past k at a b {past} e =
    ap (λ (t : Bool). not (same? (take k (drop at a)) (take k (drop at b))) || t) (e ∙ ap not (sym (ap (λ (l : List ℕ). same? l (drop k (drop at b))) (drop-drop k at a) ∙ ap (same? (drop (at + k) a)) (drop-drop k at b))))
    ∙ either (same? (take k (drop at a)) (take k (drop at b))) (same? (drop k (drop at a)) (drop k (drop at b)))
    ∙ ap not (sym (same_split k (drop at a) (drop at b)))
  where
    either : (s t : Bool) → (not s || not t) ≡ not (s && t)
    either true t = refl
    either false t = refl

or_none : (a : Bool) → (a || false) ≡ a
or_none true = refl
or_none false = refl

-- the six fields are all of a record's bytes
pub six : (a b : List ℕ) → any? (fields_differing a b) ≡ not (same? a b)
six a b = field_past 1 0 a b (field_past 1 1 a b (field_past 2 2 a b (field_past 2 4 a b (field_past 2 6 a b (or_none (not (same? (drop 8 a) (drop 8 b))))))))

-- as many bytes of either log are compared
pub as_long : (first second : List ℕ) → length (compared first second) ≡ length (compared second first)
as_long first second = rw (length-take (length second) first, length-take (length first) second) (omega arith)

-- lists of one length are equal where each of their places is
fronts : (a b : List ℕ) (j : ℕ) → ((i : ℕ) → i < j → equal_at a b i ≡ true) → take (j * 544) a ≡ take (j * 544) b
fronts a b zero e = refl
fronts a b (suc j) e =
    let more : suc j * 544 ≡ j * 544 + 544 = omega arith in
    let before : take (j * 544) a ≡ take (j * 544) b = fronts a b j (λ i h. e i (omega arith)) in
    let here : record_at a j ≡ record_at b j = same_true (record_at a j) (record_at b j) (e j (omega arith)) in
    ap (λ (n : ℕ). take n a) more ∙ take-add (j * 544) 544 a
    ∙ ap (λ (l : List ℕ). l ++ record_at a j) before ∙ ap (λ (l : List ℕ). take (j * 544) b ++ l) here
    ∙ sym (take-add (j * 544) 544 b) ∙ ap (λ (n : ℕ). take n b) (sym more)

pub all_equal : (a b : List ℕ) → length a ≡ length b → ((i : ℕ) → i < places_in a → equal_at a b i ≡ true) → a ≡ b
all_equal a b l e =
    let within : length a ≤ places_in a * 544 = omega arith in
    sym (take_all (places_in a * 544) a within) ∙ fronts a b (places_in a) e ∙ take_all (places_in a * 544) b (omega arith)
