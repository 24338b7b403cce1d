-- What is kept turn by turn is what the definition says of the logs so far: a turn's places go on where those of the turn before it stopped, and where one log is
-- over, all of the other is left.
-- Assumes nothing.
use Prim.Native.Nat.{ℕ, ◌+◌, ◌-◌, ◌≤◌, ◌<◌}
use mathlib.Core.{Path.{◌≡◌, refl, sym, ◌∙◌, ap}, Logic.{inl, inr}, Bool.{Bool, true, false}, List.{List, [], ◌∷◌, ◌++◌, append-nil}}
use native.Mathlib.{Nat.{zero-add, add-zero}, Omega.arith}
use borrow.Author.Tests.{leb-true, leb-false, le-leb}
use lib.{ListN.{length, take, length-take, length-drop, length-append}, Seq.{take_all, take-length, take-nil, take-append-le, take-append-add, sets-eq}}
use Rattle.std.specs.Prelude.{if◌then◌else◌}
use Rattle.rules.{specs.Tests.{◌≤?◌}, specs.Bytes.{zeros, splice}, proofs.page.Compared.{as_many, request_T06}}
use Rattle.rules.specs.Compare.{compared, beyond, places, leading, differences, left, comparison, entries, list_room, list_after, comparison_text, compare_text}
use Rattle.compare_places.{specs.declared.SoFar.SoFar, specs.SoFar.{part_counted, part_listed}, proofs.Joined.{whole_counted, whole_listed, last_counted, last_listed}}
use Rattle.compare_places.proofs.Laws.{counted_none, listed_none}
use Rattle.compare_text.{specs.Lines.report_text, proofs.Told.text_of_report}
use Rattle.compare_turns.specs.{Turned.{both_have, turned, turn_listed, told_of, Kept, kept_none, Parts, first_log, second_log, kept_after, Follows, SideBySide, TextOfTurns}}
use Rattle.rules.specs.Compare.{Comparison, report, list_full}

-- how a turn's parts meet what is behind them: both logs go on, or one of them is over
data Meet (a b f s : List ℕ) : Type 0 where
  both_go_on : length a ≡ 65280 → length b ≡ 65280 → Meet a b f s
  second_over : length b ≤ length a → s ≡ [] → Meet a b f s
  first_over : length a ≤ length b → f ≡ [] → Meet a b f s

meet : (a b f s : List ℕ) → Follows a f → Follows b s → Meet a b f s
meet a b f s (inl x) (inl y) = both_go_on x y
meet a b f s (inl x) (inr y) = second_over (omega (arith, x, y.0)) y.1
meet a b f s (inr x) (inl y) = first_over (omega (arith, y, x.0)) x.1
meet a b f s (inr x) (inr y) = go (length b ≤? length a) refl
  where
    go : (t : Bool) → (length b ≤? length a) ≡ t → Meet a b f s
    go true e = second_over (leb-true (length b) (length a) e) y.1
    go false e = first_over (let h = leb-false (length b) (length a) e in omega arith) x.1

swapped : {a b f s : List ℕ} → Meet a b f s → Meet b a s f
swapped (both_go_on x y) = both_go_on y x
swapped (second_over h e) = first_over h e
swapped (first_over h e) = second_over h e

-- what is compared of the two logs: what is compared of the parts, and what is compared behind them
cut : (a b f s : List ℕ) → Meet a b f s → compared (a ++ f) (b ++ s) ≡ take (both_have (length a) (length b)) a ++ compared f s
cut a b f s m = ap (λ (n : ℕ). take n (a ++ f)) (length-append b s) ∙ go m
  where
    go : Meet a b f s → take (length b + length s) (a ++ f) ≡ take (both_have (length a) (length b)) a ++ compared f s
    go (both_go_on x y) =
        let e : length b + length s ≡ length a + length s = omega arith in
        let n : both_have (length a) (length b) ≡ length a = omega arith in
        ap (λ (n : ℕ). take n (a ++ f)) e ∙ take-append-add a f (length s)
        ∙ ap (λ (l : List ℕ). l ++ take (length s) f) (sym (ap (λ (k : ℕ). take k a) n ∙ take-length a))
    go (second_over h e) =
        let n : both_have (length a) (length b) ≡ length b = omega arith in
        ap (λ (l : List ℕ). take (length b + length l) (a ++ f)) e
        ∙ ap (λ (k : ℕ). take k (a ++ f)) (add-zero (length b))
        ∙ take-append-le (length b) a f h
        ∙ ap (λ (k : ℕ). take k a) (sym n)
        ∙ sym (append-nil (take (both_have (length a) (length b)) a))
        ∙ ap (λ (l : List ℕ). take (both_have (length a) (length b)) a ++ take (length l) f) (sym e)
    go (first_over h e) =
        let n : both_have (length a) (length b) ≡ length a = omega arith in
        ap (λ (l : List ℕ). take (length b + length s) (a ++ l)) e
        ∙ ap (take (length b + length s)) (append-nil a)
        ∙ take_all (length b + length s) a (omega arith)
        ∙ sym (ap (λ (k : ℕ). take k a) n ∙ take-length a)
        ∙ sym (append-nil (take (both_have (length a) (length b)) a))
        ∙ ap (λ (l : List ℕ). take (both_have (length a) (length b)) a ++ l) (sym (ap (take (length s)) e ∙ take-nil (length s)))

cut_other : (a b f s : List ℕ) → Meet a b f s → compared (b ++ s) (a ++ f) ≡ take (both_have (length a) (length b)) b ++ compared s f
cut_other a b f s m =
    let n : both_have (length b) (length a) ≡ both_have (length a) (length b) = omega arith in
    cut b a s f (swapped m) ∙ ap (λ (k : ℕ). take k b ++ compared s f) n

-- where one log is over, nothing behind is compared
nothing : (f s : List ℕ) → s ≡ [] → (compared f s ≡ []) × (compared s f ≡ [])
nothing f s e = (ap (λ (l : List ℕ). take (length l) f) e, ap (take (length f)) e ∙ take-nil (length f))

-- a turn, and what is behind it
module _ (c : SoFar) (list a b f s : List ℕ) where
  abbrev one : List ℕ
  one = take (both_have (length a) (length b)) a

  abbrev other : List ℕ
  other = take (both_have (length a) (length b)) b

  counted_behind : Meet a b f s → part_counted c (one ++ compared f s) (other ++ compared s f) ≡ part_counted (part_counted c one other) (compared f s) (compared s f)
  counted_behind (both_go_on x y) =
      let n : both_have (length a) (length b) ≡ 65280 = omega arith in
      whole_counted c list one other (compared f s) (compared s f) 120
      (length-take (both_have (length a) (length b)) a ∙ omega arith) (length-take (both_have (length a) (length b)) b ∙ omega arith)
  counted_behind (second_over h e) =
      let g = nothing f s e in
      ap (λ (l : List ℕ). part_counted c (one ++ l) (other ++ compared s f)) g.0
      ∙ ap (λ (l : List ℕ). part_counted c (one ++ []) (other ++ l)) g.1
      ∙ last_counted c list one other
      ∙ sym (ap (λ (l : List ℕ). part_counted (part_counted c one other) l (compared s f)) g.0 ∙ ap (part_counted (part_counted c one other) []) g.1)
  counted_behind (first_over h e) =
      let g = nothing s f e in
      ap (λ (l : List ℕ). part_counted c (one ++ l) (other ++ compared s f)) g.1
      ∙ ap (λ (l : List ℕ). part_counted c (one ++ []) (other ++ l)) g.0
      ∙ last_counted c list one other
      ∙ sym (ap (λ (l : List ℕ). part_counted (part_counted c one other) l (compared s f)) g.1 ∙ ap (part_counted (part_counted c one other) []) g.0)

  listed_behind : Meet a b f s
      → part_listed c (one ++ compared f s) (other ++ compared s f) list ≡ part_listed (part_counted c one other) (compared f s) (compared s f) (part_listed c one other list)
  listed_behind (both_go_on x y) =
      whole_listed c list one other (compared f s) (compared s f) 120
      (length-take (both_have (length a) (length b)) a ∙ omega arith) (length-take (both_have (length a) (length b)) b ∙ omega arith)
  listed_behind (second_over h e) =
      let g = nothing f s e in
      ap (λ (l : List ℕ). part_listed c (one ++ l) (other ++ compared s f) list) g.0
      ∙ ap (λ (l : List ℕ). part_listed c (one ++ []) (other ++ l) list) g.1
      ∙ last_listed c list one other
      ∙ sym (ap (λ (l : List ℕ). part_listed (part_counted c one other) l (compared s f) (part_listed c one other list)) g.0
      ∙ ap (λ (l : List ℕ). part_listed (part_counted c one other) [] l (part_listed c one other list)) g.1)
  listed_behind (first_over h e) =
      let g = nothing s f e in
      ap (λ (l : List ℕ). part_listed c (one ++ l) (other ++ compared s f) list) g.1
      ∙ ap (λ (l : List ℕ). part_listed c (one ++ []) (other ++ l) list) g.0
      ∙ last_listed c list one other
      ∙ sym (ap (λ (l : List ℕ). part_listed (part_counted c one other) l (compared s f) (part_listed c one other list)) g.1
      ∙ ap (λ (l : List ℕ). part_listed (part_counted c one other) [] l (part_listed c one other list)) g.0)

-- what is left over, as a number
left_is : (f s : List ℕ) → left f s ≡ (length f - length s) + (length s - length f)
left_is f s = go (length s ≤? length f) refl
  where
    go : (t : Bool) → (length s ≤? length f) ≡ t → left f s ≡ (length f - length s) + (length s - length f)
    go true e =
        let h : length s ≤ length f = leb-true (length s) (length f) e in
        ap (λ (t : Bool). length (if t then beyond f s else beyond s f)) e ∙ length-drop (length s) f ∙ omega arith
    go false e =
        let h : length f < length s = leb-false (length s) (length f) e in
        ap (λ (t : Bool). length (if t then beyond f s else beyond s f)) e ∙ length-drop (length f) s ∙ omega arith

-- what one log has more than the other is what its part has more, and what is behind it has more
more : (a b f s : List ℕ) → Meet a b f s
    → length (a ++ f) - length (b ++ s) ≡ (length a - both_have (length a) (length b)) + (length f - length s)
more a b f s m = go m
  where
    long : length (a ++ f) ≡ length a + length f
    long = length-append a f

    far : length (b ++ s) ≡ length b + length s
    far = length-append b s

    go : Meet a b f s → length (a ++ f) - length (b ++ s) ≡ (length a - both_have (length a) (length b)) + (length f - length s)
    go (both_go_on x y) = omega (arith, long, far)
    go (second_over h e) = let none : length s ≡ 0 = ap length e in omega (arith, long, far)
    go (first_over h e) = let none : length f ≡ 0 = ap length e in omega (arith, long, far)

more_other : (a b f s : List ℕ) → Meet a b f s
    → length (b ++ s) - length (a ++ f) ≡ (length b - both_have (length a) (length b)) + (length s - length f)
more_other a b f s m =
    let n : both_have (length b) (length a) ≡ both_have (length a) (length b) = omega arith in
    more b a s f (swapped m) ∙ ap (λ (k : ℕ). (length b - k) + (length s - length f)) n

left_behind : (l : ℕ) (a b f s : List ℕ) → Meet a b f s
    → l + (length a - both_have (length a) (length b)) + (length b - both_have (length a) (length b)) + left f s ≡ l + left (a ++ f) (b ++ s)
left_behind l a b f s m =
    let n : ℕ = both_have (length a) (length b) in
    ap (λ (k : ℕ). l + (length a - n) + (length b - n) + k) (left_is f s)
    ∙ sum (length a - n) (length b - n) (length f - length s) (length s - length f)
    ∙ ap (λ (k : ℕ). l + k) (sym (left_is (a ++ f) (b ++ s) ∙ ap (λ (k : ℕ). k + (length (b ++ s) - length (a ++ f))) (more a b f s m)
    ∙ ap (λ (k : ℕ). (length a - n) + (length f - length s) + k) (more_other a b f s m)))
  where
    sum : (p q x y : ℕ) → l + p + q + (x + y) ≡ l + ((p + x) + (q + y))
    sum p q x y = omega arith

-- after turns, from anything that is kept on: as after one turn with all of the two logs
abbrev at_once : Kept → (f s : List ℕ) → Kept
at_once k f s =
    record {
      told = record { counted = part_counted k.told.counted (compared f s) (compared s f); left = k.told.left + left f s };
      list = part_listed k.told.counted (compared f s) (compared s f) k.list;
    }

all_turns : (k : Kept) (turns : List Parts) → SideBySide turns → kept_after k turns ≡ at_once k (first_log turns) (second_log turns)
all_turns k [] t = λ i. record {
  told = record { counted = counted_none k.told.counted [] [] i; left = sym (add-zero k.told.left) i };
  list = listed_none k.told.counted [] [] k.list i;
}
all_turns k (turn ∷ turns) t =
    let a : List ℕ = turn.of_first in
    let b : List ℕ = turn.of_second in
    let f : List ℕ = first_log turns in
    let s : List ℕ = second_log turns in
    let m : Meet a b f s = meet a b f s t.0 t.1 in
    let c : SoFar = k.told.counted in
    all_turns
    (record { told = turned k.told a b (length a) (length b); list = turn_listed k.told a b (length a) (length b) k.list })
    turns t.2
    ∙ (λ i. record {
      told = record {
        counted = (sym (ap (λ (l : List ℕ). part_counted c l (compared (b ++ s) (a ++ f))) (cut a b f s m)
            ∙ ap (part_counted c (take (both_have (length a) (length b)) a ++ compared f s)) (cut_other a b f s m)
            ∙ counted_behind c k.list a b f s m)) i;
        left = left_behind k.told.left a b f s m i;
      };
      list = (sym (ap (λ (l : List ℕ). part_listed c l (compared (b ++ s) (a ++ f)) k.list) (cut a b f s m)
          ∙ ap (λ (l : List ℕ). part_listed c (take (both_have (length a) (length b)) a ++ compared f s) l k.list) (cut_other a b f s m)
          ∙ listed_behind c k.list a b f s m)) i;
    })

pub text_of_turns : TextOfTurns
unfolding compare_text
text_of_turns turns t =
    record {
      places_so_far = ap (λ (k : Kept). k.told.counted.places) is ∙ zero-add (places f s);
      leading_so_far = ap (λ (k : Kept). k.told.counted.leading) is;
      differing_so_far = differing;
      left_so_far = ap (λ (k : Kept). k.told.left) is ∙ zero-add (left f s);
      list_so_far = listed;
      text_so_far = go (length (differences f s) ≤? list_room) refl;
    }
  where
    f : List ℕ
    f = first_log turns

    s : List ℕ
    s = second_log turns

    is : kept_after kept_none turns ≡ at_once kept_none f s
    is = all_turns kept_none turns t

    differing : (kept_after kept_none turns).told.counted.differing ≡ length (differences f s)
    differing = ap (λ (k : Kept). k.told.counted.differing) is ∙ zero-add (length (differences f s))

    told_is : told_of (kept_after kept_none turns).told ≡ comparison f s list_room
    told_is =
        ap (λ (k : Kept). told_of k.told) is
        ∙ ap (λ (n : ℕ). if n ≤? list_room then report (leading f s) n (0 + left f s) else list_full n) (zero-add (length (differences f s)))
        ∙ ap (λ (n : ℕ). if length (differences f s) ≤? list_room then report (leading f s) (length (differences f s)) n else list_full (length (differences f s))) (zero-add (left f s))

    listed : length (differences f s) ≤ list_room → (kept_after kept_none turns).list ≡ list_after f s (zeros list_room)
    listed h =
        let room : 0 + length (entries (differences f s)) ≤ length (zeros list_room) = omega (arith, as_many (differences f s)) in
        ap (λ (k : Kept). k.list) is
        ∙ sets-eq (entries (differences f s)) (zeros list_room) 0 room
        ∙ ap (λ (t : Bool). if t then splice 0 (entries (differences f s)) (zeros list_room) else zeros list_room) (sym (le-leb (length (differences f s)) list_room h))

    go : (t : Bool) → (length (differences f s) ≤? list_room) ≡ t → report_text (told_of (kept_after kept_none turns).told) (kept_after kept_none turns).list ≡ compare_text f s
    go true e =
        ap (λ (r : Comparison). report_text r (kept_after kept_none turns).list) told_is
        ∙ ap (report_text (comparison f s list_room)) (listed (leb-true (length (differences f s)) list_room e))
        ∙ text_of_report f s (zeros list_room)
    go false e =
        let full : comparison f s list_room ≡ list_full (length (differences f s)) = (request_T06 f s).full list_room (leb-false (length (differences f s)) list_room e) in
        ap (λ (r : Comparison). report_text r (kept_after kept_none turns).list) (told_is ∙ full)
        ∙ ap (λ (r : Comparison). comparison_text r (differences f s)) (sym full)
