-- Document 02, T-06: what the report of two logs says of them.
-- Assumes nothing.
use Prim.Native.Nat.{ℕ, zero, suc, ◌+◌, ◌≤◌, ◌<◌}
use mathlib.Core.{Path.{◌≡◌, refl, sym, ◌∙◌, ap, subst}, Bool.{Bool, true, false, not, ◌&&◌, ◌||◌}, List.{List, [], ◌∷◌, ◌++◌}}
use native.Mathlib.{Nat.zero-add, Numerals.add-one, Omega.arith}
use borrow.Author.Tests.{lt-ltb, le-ltb, le-leb, lt-leb, eq-eqb, ltb-true, ltb-false, leb-true, leb-false, eqb-true, eqb-false, not-false}
use lib.{ListN.{length, drop, length-drop, take-append-drop}, Seq.{take_all}}
use Rattle.std.specs.Prelude.{if◌then◌else◌}
use Rattle.rules.specs.{Tests.{◌≤?◌, ◌<?◌, ◌=?◌}, Bytes.same?, Log.record_at}
use Rattle.rules.specs.Bytes.{splice}
use Rattle.rules.specs.Compare.{compared, beyond, equal_at, fields_differing, fields_at, Difference, difference_at, differences_to, leading_on, leading_to, places, leading, differences, rest, left, comparison, entries, list_after, rest_after, listed?, Rising, FieldsTold, RequestT06}
use Rattle.rules.proofs.page.Places.{same_refl, six, as_long, all_equal}
use Rattle.rules.specs.Compare.{Comparison, report, list_full}
use Rattle.std.specs.Prelude.{Ok, Err}

-- ---- which places are listed
or_assoc : (a b c : Bool) → ((a || b) || c) ≡ (a || (b || c))
or_assoc true b c = refl
or_assoc false b c = refl

or_none : (a : Bool) → (a || false) ≡ a
or_none true = refl
or_none false = refl

listed_both : (j : ℕ) (xs ys : List Difference) → listed? j (xs ++ ys) ≡ (listed? j xs || listed? j ys)
listed_both j [] ys = refl
listed_both j (d ∷ xs) ys = ap (λ (t : Bool). d.place =? j || t) (listed_both j xs ys) ∙ sym (or_assoc (d.place =? j) (listed? j xs) (listed? j ys))

listed_at : (j number : ℕ) (x y : List ℕ) → listed? j (difference_at number x y) ≡ (number =? j && not (same? x y))
listed_at j number x y = go (same? x y)
  where
    and_true : (b : Bool) → (b || false) ≡ (b && true)
    and_true true = refl
    and_true false = refl

    and_false : (b : Bool) → false ≡ (b && false)
    and_false true = refl
    and_false false = refl

    go : (t : Bool) → listed? j (if t then [] else record { place = number; fields = fields_differing x y } ∷ []) ≡ (number =? j && not t)
    go true = and_false (number =? j)
    go false = and_true (number =? j)

-- a place before the last one, the last one, or one past it
one_more : (P : ℕ → Bool) (j n : ℕ) → ((j <? n && P j) || (n =? j && P n)) ≡ (j <? suc n && P j)
one_more P j n = go (j <? n) (n =? j) refl refl
  where
    go : (b c : Bool) → (j <? n) ≡ b → (n =? j) ≡ c → ((j <? n && P j) || (n =? j && P n)) ≡ (j <? suc n && P j)
    go true true e f = absurd (omega (arith, ltb-true j n e, eqb-true n j f))
    go true false e f = rw (e, f, lt-ltb j (suc n) (omega (arith, ltb-true j n e))) (or_none (P j))
    go false true e f = rw (e, f, lt-ltb j (suc n) (omega (arith, eqb-true n j f))) (ap P (eqb-true n j f))
    go false false e f =
        let apart : n ≡ j → ⊥ = eqb-false n j f in
        let past : n ≤ j = ltb-false j n e in
        rw (e, f, le-ltb j (suc n) (omega arith)) refl

-- ---- in order: from a number on, and below another
abbrev Within : (from to : ℕ) → List Difference → Type 0
Within from to [] = from ≤ to
Within from to (d ∷ ds) = (from ≤ d.place) × Within (suc d.place) to ds

wider : (from to : ℕ) (ds : List Difference) → Within from to ds → Within from (suc to) ds
wider from to [] w = omega arith
wider from to (d ∷ ds) w = (w.0, wider (suc d.place) to ds w.1)

one_behind : (from to : ℕ) (ds : List Difference) (d : Difference) → d.place ≡ to → Within from to ds → Within from (suc to) (ds ++ d ∷ [])
one_behind from to [] d e w = (omega arith, omega arith)
one_behind from to (c ∷ ds) d e w = (w.0, one_behind (suc c.place) to ds d e w.1)

rises : (from to : ℕ) (ds : List Difference) → Within from to ds → Rising from ds
rises from to [] w = tt
rises from to (d ∷ ds) w = (w.0, rises (suc d.place) to ds w.1)

nothing_behind : (ds : List Difference) → ds ++ [] ≡ ds
nothing_behind [] = refl
nothing_behind (d ∷ ds) = ap (λ (l : List Difference). d ∷ l) (nothing_behind ds)

-- ---- the fields of each
told_both : (at : ℕ → List Bool) (xs ys : List Difference) → FieldsTold at xs → FieldsTold at ys → FieldsTold at (xs ++ ys)
told_both at [] ys p q = q
told_both at (d ∷ xs) ys p q = (p.0, told_both at xs ys p.1 q)

-- ---- the leading places: so many of the first n are equal, and the next, if there is one, is not
record Led (P : ℕ → Bool) (n l : ℕ) : Type 0 where
  most : l ≤ n
  equal : (j : ℕ) → j < l → P j ≡ true
  stop : l < n → P l ≡ false

led_on : (P : ℕ → Bool) (l n : ℕ) → Led P n l → Led P (suc n) (leading_on l n (P n))
led_on P l n d = go (l =? n) (P n) refl refl
  where
    last : (j : ℕ) → l ≡ n → P n ≡ true → j < n + 1 → P j ≡ true
    last j e g h = pick (j =? n) refl
      where
        pick : (c : Bool) → (j =? n) ≡ c → P j ≡ true
        pick true f = ap P (eqb-true j n f) ∙ g
        pick false f = let apart : j ≡ n → ⊥ = eqb-false j n f in d.equal j (omega arith)

    go : (c t : Bool) → (l =? n) ≡ c → P n ≡ t → Led P (suc n) (if c && t then n + 1 else l)
    go true true f g = record { most = omega arith; equal = λ j h. last j (eqb-true l n f) g h; stop = λ h. absurd (omega arith) }
    go true false f g = record { most = let m = d.most in omega arith; equal = d.equal; stop = λ h. ap P (eqb-true l n f) ∙ g }
    go false t f g =
        let apart : l ≡ n → ⊥ = eqb-false l n f in
        let m = d.most in
        record { most = omega arith; equal = d.equal; stop = λ h. d.stop (omega arith) }

module _ (a b : List ℕ) where
  listed_to_law : (j n : ℕ) → listed? j (differences_to 0 a b n) ≡ (j <? n && not (equal_at a b j))
  unfolding differences_to
  listed_to_law j zero = rw (le-ltb j 0 (omega arith)) refl
  listed_to_law j (suc n) =
      listed_both j (differences_to 0 a b n) (difference_at (0 + n) (record_at a n) (record_at b n))
      ∙ ap (λ (t : Bool). t || listed? j (difference_at (0 + n) (record_at a n) (record_at b n))) (listed_to_law j n)
      ∙ ap (λ (t : Bool). (j <? n && not (equal_at a b j)) || t) (listed_at j (0 + n) (record_at a n) (record_at b n))
      ∙ ap (λ (k : ℕ). (j <? n && not (equal_at a b j)) || (k =? j && not (equal_at a b n))) (zero-add n)
      ∙ one_more (λ k. not (equal_at a b k)) j n

  within : (n : ℕ) → Within 0 n (differences_to 0 a b n)
  unfolding differences_to
  within zero = omega arith
  within (suc n) = go (same? (record_at a n) (record_at b n)) (within n)
    where
      go : (t : Bool) → Within 0 n (differences_to 0 a b n) → Within 0 (suc n) (differences_to 0 a b n ++ (if t then [] else record { place = 0 + n; fields = fields_differing (record_at a n) (record_at b n) } ∷ []))
      go true w = subst (Within 0 (suc n)) (sym (nothing_behind (differences_to 0 a b n))) (wider 0 n (differences_to 0 a b n) w)
      go false w = one_behind 0 n (differences_to 0 a b n) (record { place = 0 + n; fields = fields_differing (record_at a n) (record_at b n) }) (zero-add n) w

  led : (n : ℕ) → Led (equal_at a b) n (leading_to 0 0 a b n)
  unfolding leading_to
  led zero = record { most = omega arith; equal = λ j h. absurd (omega arith); stop = λ h. absurd (omega arith) }
  led (suc n) =
      subst (λ (k : ℕ). Led (equal_at a b) (suc n) (leading_on (leading_to 0 0 a b n) k (equal_at a b n))) (sym (zero-add n))
      (led_on (equal_at a b) (leading_to 0 0 a b n) n (led n))

  -- where nothing is listed, every place is equal
  none : (n : ℕ) → differences_to 0 a b n ≡ [] → (j : ℕ) → j < n → equal_at a b j ≡ true
  none n e j h =
      let l : listed? j (differences_to 0 a b n) ≡ false = ap (listed? j) e in
      not-false (equal_at a b j) (sym (ap (λ (t : Bool). t && not (equal_at a b j)) (lt-ltb j n h)) ∙ sym (listed_to_law j n) ∙ l)

  -- each has its fields
  told : (n : ℕ) → FieldsTold (fields_at a b) (differences_to 0 a b n)
  unfolding differences_to
  told zero = tt
  told (suc n) = told_both (fields_at a b) (differences_to 0 a b n) (difference_at (0 + n) (record_at a n) (record_at b n)) (told n) (go (same? (record_at a n) (record_at b n)))
    where
      go : (t : Bool) → FieldsTold (fields_at a b) (if t then [] else record { place = 0 + n; fields = fields_at a b n } ∷ [])
      go true = tt
      go false = (ap (fields_at a b) (sym (zero-add n)), tt)

-- no place of a log differs from itself
none_itself : (a : List ℕ) (n : ℕ) → differences_to 0 a a n ≡ []
unfolding differences_to
none_itself a zero = refl
none_itself a (suc n) =
    ap (λ (ds : List Difference). ds ++ difference_at (0 + n) (record_at a n) (record_at a n)) (none_itself a n)
    ∙ ap (λ (t : Bool). if t then [] else record { place = 0 + n; fields = fields_at a a n } ∷ []) (same_refl (record_at a n))

module _ (first second : List ℕ) where
  -- where no place differs, the same bytes of both were compared
  alike : differences first second ≡ [] → compared first second ≡ compared second first
  alike e = all_equal (compared first second) (compared second first) (as_long first second) (none (compared first second) (compared second first) (places first second) e)

  longer_first : length second ≤ length first → (rest first second ≡ drop (length second) first) × (differences first second ≡ [] → second ++ rest first second ≡ first)
  longer_first h =
      let is : rest first second ≡ drop (length second) first = ap (λ (t : Bool). if t then beyond first second else beyond second first) (le-leb (length second) (length first) h) in
      (is, λ e. ap (λ (l : List ℕ). second ++ l) is ∙ ap (λ (l : List ℕ). l ++ drop (length second) first) (sym (alike e ∙ take_all (length first) second h)) ∙ take-append-drop (length second) first)

  longer_second : length first < length second → (rest first second ≡ drop (length first) second) × (differences first second ≡ [] → first ++ rest first second ≡ second)
  longer_second h =
      let is : rest first second ≡ drop (length first) second = ap (λ (t : Bool). if t then beyond first second else beyond second first) (lt-leb (length second) (length first) h) in
      let whole : compared first second ≡ first = take_all (length second) first (omega arith) in
      (is, λ e. ap (λ (l : List ℕ). first ++ l) is ∙ ap (λ (l : List ℕ). l ++ drop (length first) second) (sym whole ∙ alike e) ∙ take-append-drop (length first) second)

  equal_logs : differences first second ≡ [] → left first second ≡ 0 → first ≡ second
  equal_logs e l = go (length second ≤? length first) refl
    where
      go : (t : Bool) → (length second ≤? length first) ≡ t → first ≡ second
      go true f =
          let h : length second ≤ length first = leb-true (length second) (length first) f in
          let gone : length (drop (length second) first) ≡ 0 = ap length (sym (longer_first h).0) ∙ l in
          let same : length first ≤ length second = omega (arith, length-drop (length second) first, gone) in
          sym (take_all (length second) first same) ∙ alike e ∙ take_all (length first) second h
      go false f =
          let h : length first < length second = leb-false (length second) (length first) f in
          let gone : length (drop (length first) second) ≡ 0 = ap length (sym (longer_second h).0) ∙ l in
          absurd (omega (arith, length-drop (length first) second, gone))

  logs_equal : first ≡ second → (differences first second ≡ []) × (left first second ≡ 0)
  logs_equal e =
      let at : second ≡ first = sym e in (
        ap (differences first) at ∙ none_itself (compared first first) (places first first),
        ap (left first) at ∙ ap length (longer_itself) ∙ length-drop (length first) first ∙ omega arith,
      )
    where
      longer_itself : rest first first ≡ drop (length first) first
      longer_itself = ap (λ (t : Bool). if t then beyond first first else beyond first first) (le-leb (length first) (length first) (omega arith))

-- every place of a log beside itself leads
all_lead : (a : List ℕ) (n : ℕ) → leading_to 0 0 a a n ≡ n
unfolding leading_to
all_lead a zero = refl
all_lead a (suc n) =
    ap (λ (k : ℕ). leading_on k (0 + n) (equal_at a a n)) (all_lead a n)
    ∙ ap (λ (k : ℕ). leading_on n k (equal_at a a n)) (zero-add n)
    ∙ ap (leading_on n n) (same_refl (record_at a n))
    ∙ ap (λ (t : Bool). if t && true then n + 1 else n) (eq-eqb n n refl)
    ∙ add-one n

none_there : (ds : List Difference) → length ds ≡ 0 → ds ≡ []
none_there [] e = refl
none_there (d ∷ ds) e = absurd (omega (arith, e))

-- what a report with no difference and nothing left over has
abbrev Clean : Comparison → Type 0
Clean (Ok told) = (told.differing ≡ 0) × (told.left ≡ 0)
Clean (Err told) = ⊥

module _ (first second : List ℕ) where
  clean_equal : (room lead : ℕ) → comparison first second room ≡ report lead 0 0 → first ≡ second
  clean_equal room lead e = go (length (differences first second) ≤? room) (subst Clean (sym e) (refl, refl))
    where
      go : (t : Bool) → Clean (if t then report (leading first second) (length (differences first second)) (left first second) else list_full (length (differences first second)))
          → first ≡ second
      go true c = equal_logs first second (none_there (differences first second) c.0) c.1
      go false c = absurd c

  equal_clean : (room : ℕ) → first ≡ second → comparison first second room ≡ report (places first second) 0 0
  equal_clean room e =
      subst (λ (other : List ℕ). comparison first other room ≡ report (places first other) 0 0) e itself
    where
      itself : comparison first first room ≡ report (places first first) 0 0
      itself =
          let is = logs_equal first first refl in
          ap (λ (ds : List Difference). if length ds ≤? room then report (leading first first) (length ds) (left first first) else list_full (length ds)) is.0
          ∙ ap (λ (t : Bool). if t then report (leading first first) 0 (left first first) else list_full 0) (le-leb 0 room (omega arith))
          ∙ ap (λ (n : ℕ). report (leading first first) 0 n) is.1
          ∙ ap (λ (n : ℕ). report n 0 0) (all_lead (compared first first) (places first first))

-- as many entries as places that differ
pub as_many : (ds : List Difference) → length (entries ds) ≡ length ds
as_many [] = refl
as_many (d ∷ ds) = ap suc (as_many ds)

-- a list that holds every differing place, and one that does not
module _ (first second : List ℕ) where
  abbrev told_of : Bool → Comparison
  told_of t = if t then report (leading first second) (length (differences first second)) (left first second) else list_full (length (differences first second))

  abbrev list_of : (list : List ℕ) → Bool → List ℕ
  list_of list t = if t then splice 0 (entries (differences first second)) list else list

  fits : (room : ℕ) → length (differences first second) ≤ room → comparison first second room ≡ told_of true
  fits room h = ap told_of (le-leb (length (differences first second)) room h)

  over : (room : ℕ) → room < length (differences first second) → comparison first second room ≡ told_of false
  over room h = ap told_of (lt-leb (length (differences first second)) room h)

  written : (list : List ℕ) → length (differences first second) ≤ length list
      → list_after first second list ≡ entries (differences first second) ++ drop (length (differences first second)) list
  written list h =
      let e : 0 + length (entries (differences first second)) ≡ length (differences first second) = omega (arith, as_many (differences first second)) in
      ap (list_of list) (le-leb (length (differences first second)) (length list) h)
      ∙ ap (λ (n : ℕ). entries (differences first second) ++ drop n list) e

  stays : (list : List ℕ) → length list < length (differences first second) → list_after first second list ≡ list
  stays list h = ap (list_of list) (lt-leb (length (differences first second)) (length list) h)

pub request_T06 : RequestT06
request_T06 first second =
    let a : List ℕ = compared first second in
    let b : List ℕ = compared second first in
    let n : ℕ = places first second in
    record {
      means_equal = equal_logs first second;
      other_way_round = logs_equal first second;
      report_means_equal = clean_equal first second;
      report_of_equal = equal_clean first second;
      listed = λ j. listed_to_law a b j n;
      rising = rises 0 n (differences_to 0 a b n) (within a b n);
      fields_told = told a b n;
      six_fields = λ j. six (record_at a j) (record_at b j);
      leads_places = (led a b n).most;
      leads = (led a b n).equal;
      stops = (led a b n).stop;
      first_longer = longer_first first second;
      second_longer = longer_second first second;
      holds = fits first second;
      full = over first second;
      list_written = written first second;
      list_stays = stays first second;
      empty_end = λ room h. ap (λ (r : Comparison). rest_after r first second) (over first second room h);
    }
