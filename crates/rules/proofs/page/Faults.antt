-- Document 02, T-03: the walk over an image's records names the first fault, and none exactly where the image is good.
-- Assumes nothing.
use Prim.Native.Nat.{ℕ, zero, suc, ◌+◌, ◌*◌, ◌≤◌, ◌<◌}
use mathlib.Core.{Path.{◌≡◌, refl, sym, ◌∙◌, ap, subst}, Logic.◌↔◌, Bool.{Bool, true, false, not, ◌&&◌, true≢false, false≢true}, List.{List, [], ◌∷◌}}
use native.Mathlib.Omega.{arith}
use lib.{ListN.{length, take, drop}, Seq.drop-drop}
use borrow.Author.Tests.{eq-eqb, ne_eqb, eqb-true, eqb-false, leb-true}
use Rattle.std.specs.Prelude.{if◌then◌else◌}
use Rattle.rules.specs.{Tests.{◌=?◌, ◌≤?◌}, Bytes.{of_le, number_at}}
use Rattle.rules.specs.Image.{image_record_size, records_of, good_record, good_records, good_size, version_of, good_image}
use Rattle.rules.specs.Fault.{reason_number, Fault, none, ◌of_record◌, number_test, count_test, version_test, sum_test, record_fault, ◌or_else◌, records_fault, first_fault, judged, image_of, image_record, passes, Named, First, RequestT03}
use Rattle.rules.specs.declared.{Reason.Reason, Reason.TheVariants.{Size, Number, Count, Version, Sum}}
use Rattle.rules.proofs.page.Choice.{and_3}
use Rattle.rules.specs.{Fault.{bad_image}, declared.FirstFault.FirstFault}
use Rattle.std.specs.Prelude.{Ok}

-- a fault told from none
clean : Fault → Bool
clean none = true
clean (reason of_record i) = false

clean_none : (f : Fault) → clean f ≡ true → f ≡ none
unfolding clean
clean_none none e = refl
clean_none (reason of_record i) e = absurd (false≢true e)

fault_apart : {X : Type 0} {reason : Reason} {i : ℕ} → none ≡ (reason of_record i) → X
unfolding clean
fault_apart e = absurd (true≢false (ap clean e))

-- what a fault names, of a fault that is there
abbrev reason_or : Reason → Fault → Reason
reason_or other none = other
reason_or other (reason of_record i) = reason

abbrev place_or : ℕ → Fault → ℕ
place_or other none = other
place_or other (reason of_record i) = i

-- reasons are numbered from 1, each with its own number
from_1 : (r : Reason) → 1 ≤ reason_number r
from_1 Size = omega arith
from_1 Number = omega arith
from_1 Count = omega arith
from_1 Version = omega arith
from_1 Sum = omega arith

reason_numbered : ℕ → Reason
reason_numbered k = if k =? 1 then Size else if k =? 2 then Number else if k =? 3 then Count else if k =? 4 then Version else Sum

numbered : (r : Reason) → reason_numbered (reason_number r) ≡ r
unfolding reason_numbered
numbered Size = refl
numbered Number = refl
numbered Count = refl
numbered Version = refl
numbered Sum = refl

same_reason : (r q : Reason) → reason_number r ≡ reason_number q → r ≡ q
same_reason r q e = sym (numbered r) ∙ ap reason_numbered e ∙ numbered q

same_number : (i k : ℕ) → (i < k → ⊥) → (k < i → ⊥) → i ≡ k
same_number i k up down = omega (arith, up, down)

-- a part of a list's front is a part of the list
part_of_front : (k at front : ℕ) (l : List ℕ) → at + k ≤ front → take k (drop at (take front l)) ≡ take k (drop at l)
part_of_front zero zero front l h = refl
part_of_front (suc k) zero zero l h = absurd (omega arith)
part_of_front (suc k) zero (suc front) [] h = refl
part_of_front (suc k) zero (suc front) (x ∷ l) h = ap (λ (s : List ℕ). x ∷ s) (part_of_front k zero front l (omega (arith, h)))
part_of_front k (suc at) zero l h = absurd (omega arith)
part_of_front k (suc at) (suc front) [] h = refl
part_of_front k (suc at) (suc front) (x ∷ l) h = part_of_front k at front l (omega (arith, h))

-- record 0 carries the image's version
first_version : (bytes : List ℕ) → number_at 8 4 (image_record 0 bytes) ≡ version_of bytes
first_version bytes = ap of_le (part_of_front 8 4 128 bytes (omega arith))

-- what the tests of one record find: all pass, or the first that fails
data Tested (i n version : ℕ) (record_bytes : List ℕ) : Type 0 where
  all_pass : number_test i record_bytes ≡ true → count_test n record_bytes ≡ true → version_test i version record_bytes ≡ true → sum_test record_bytes ≡ true
      → record_fault i n version record_bytes ≡ none → Tested i n version record_bytes
  by_number : number_test i record_bytes ≡ false → record_fault i n version record_bytes ≡ (Number of_record i) → Tested i n version record_bytes
  by_count : number_test i record_bytes ≡ true → count_test n record_bytes ≡ false
      → record_fault i n version record_bytes ≡ (Count of_record i) → Tested i n version record_bytes
  by_version : number_test i record_bytes ≡ true → count_test n record_bytes ≡ true → version_test i version record_bytes ≡ false
      → record_fault i n version record_bytes ≡ (Version of_record i) → Tested i n version record_bytes
  by_sum : number_test i record_bytes ≡ true → count_test n record_bytes ≡ true → version_test i version record_bytes ≡ true → sum_test record_bytes ≡ false
      → record_fault i n version record_bytes ≡ (Sum of_record i) → Tested i n version record_bytes

tested : (i n version : ℕ) (s : List ℕ) → Tested i n version s
unfolding record_fault
tested i n version s = at (number_test i s) refl (count_test n s) refl (version_test i version s) refl (sum_test s) refl
  where
    at : (a : Bool) → number_test i s ≡ a → (b : Bool) → count_test n s ≡ b → (c : Bool) → version_test i version s ≡ c → (d : Bool) → sum_test s ≡ d → Tested i n version s
    at false p b q c r d t = by_number p (rw p)
    at true p false q c r d t = by_count p q (rw (p, q))
    at true p true q false r d t = by_version p q r (rw (p, q, r))
    at true p true q true r false t = by_sum p q r t (rw (p, q, r, t))
    at true p true q true r true t = all_pass p q r t (rw (p, q, r, t))

-- a record is without a fault where its four tests pass
clean_record : (i n version : ℕ) (s : List ℕ) → clean (record_fault i n version s) ≡ (number_test i s && count_test n s && version_test i version s && sum_test s)
unfolding clean
clean_record i n version s = go (tested i n version s)
  where
    go : Tested i n version s → clean (record_fault i n version s) ≡ (number_test i s && count_test n s && version_test i version s && sum_test s)
    go (all_pass p q r t e) = rw (e, p, q, r, t)
    go (by_number p e) = rw (e, p)
    go (by_count p q e) = rw (e, p, q)
    go (by_version p q r e) = rw (e, p, q, r)
    go (by_sum p q r t e) = rw (e, p, q, r, t)

clean_both : (f g : Fault) → clean (f or_else g) ≡ (clean f && clean g)
unfolding clean
clean_both none g = refl
clean_both (reason of_record i) g = refl

-- a record after the first is without a fault where it is good; so are all of them
clean_later : (i n version : ℕ) (s : List ℕ) → (i =? 0) ≡ false → clean (record_fault i n version s) ≡ good_record i n version s
unfolding good_record
clean_later i n version s later = clean_record i n version s ∙ rw later

clean_rest : (records i n version : ℕ) (s : List ℕ) → 1 ≤ i → clean (records_fault records i n version s) ≡ good_records records i n version s
unfolding records_fault good_records clean
clean_rest zero i n version s later = refl
clean_rest (suc records) i n version s later =
    let here = take image_record_size s in
    let rest = drop image_record_size s in
    clean_both (record_fault i n version here) (records_fault records (i + 1) n version rest)
    ∙ rw (clean_later i n version here (ne_eqb i 0 (λ e. omega (arith, e, later))), clean_rest records (i + 1) n version rest (omega arith))

-- the first record's version is the image's, which must not be zero
regrouped : (a b zero? d rest : Bool) → ((a && b && not zero? && d) && rest) ≡ (not zero? && ((a && b && true && d) && rest))
regrouped true true false d rest = refl
regrouped true true true d rest = refl
regrouped true false false d rest = refl
regrouped true false true d rest = refl
regrouped false b false d rest = refl
regrouped false b true d rest = refl

clean_records : (records n : ℕ) (bytes : List ℕ) → 1 ≤ records
    → clean (records_fault records 0 n (version_of bytes) bytes) ≡ (not (version_of bytes =? 0) && good_records records 0 n (version_of bytes) bytes)
unfolding records_fault good_records good_record
clean_records zero n bytes h = absurd (omega arith)
clean_records (suc records) n bytes h =
    let version = version_of bytes in
    let here = take image_record_size bytes in
    let rest = drop image_record_size bytes in
    let own : number_at 8 4 here ≡ version = first_version bytes in
    clean_both (record_fault 0 n version here) (records_fault records (0 + 1) n version rest)
    ∙ rw (clean_record 0 n version here, own, clean_rest records 1 n version rest (omega arith), eq-eqb version version refl)
    (regrouped (number_test 0 here) (count_test n here) (version =? 0) (sum_test here) (good_records records 1 n version rest))

some_records : (bytes : List ℕ) → good_size bytes ≡ true → 1 ≤ records_of bytes
some_records bytes e = leb-true 1 (records_of bytes) (and_3 (length bytes =? records_of bytes * image_record_size) (1 ≤? records_of bytes) (records_of bytes ≤? 128) e).1

clean_first : (bytes : List ℕ) → clean (first_fault bytes) ≡ good_image bytes
unfolding first_fault good_image clean
clean_first bytes = go (good_size bytes) refl
  where
    go : (b : Bool) → good_size bytes ≡ b → clean (first_fault bytes) ≡ good_image bytes
    go false e = rw e
    go true e = rw (e, clean_records (records_of bytes) (records_of bytes) bytes (some_records bytes e))

pub none_good : (bytes : List ℕ) → first_fault bytes ≡ none → good_image bytes ≡ true
unfolding clean
none_good bytes e = sym (clean_first bytes) ∙ ap clean e

pub good_none : (bytes : List ℕ) → good_image bytes ≡ true → first_fault bytes ≡ none
good_none bytes e = clean_none (first_fault bytes) (clean_first bytes ∙ e)

-- where the image's version is not zero, each of its records is without a fault exactly where it is good; where it is zero, the first record has one
clean_at : (i n : ℕ) (bytes : List ℕ) → (version_of bytes =? 0) ≡ false
    → clean (record_fault i n (version_of bytes) (image_record i bytes)) ≡ good_record i n (version_of bytes) (image_record i bytes)
unfolding good_record
clean_at i n bytes nonzero = go (i =? 0) refl
  where
    go : (b : Bool) → (i =? 0) ≡ b → clean (record_fault i n (version_of bytes) (image_record i bytes)) ≡ good_record i n (version_of bytes) (image_record i bytes)
    go false e = clean_later i n (version_of bytes) (image_record i bytes) e
    go true e =
        rw (eqb-true i 0 e) (clean_record 0 n (version_of bytes) (image_record 0 bytes) ∙ rw (first_version bytes, nonzero, eq-eqb (version_of bytes) (version_of bytes) refl))

pub good_clean : (i n : ℕ) (bytes : List ℕ) → (version_of bytes =? 0) ≡ false → good_record i n (version_of bytes) (image_record i bytes) ≡ true
    → record_fault i n (version_of bytes) (image_record i bytes) ≡ none
good_clean i n bytes nonzero good = clean_none _ (clean_at i n bytes nonzero ∙ good)

pub bad_unclean : (i n : ℕ) (bytes : List ℕ) → (version_of bytes =? 0) ≡ false → good_record i n (version_of bytes) (image_record i bytes) ≡ false
    → record_fault i n (version_of bytes) (image_record i bytes) ≡ none → ⊥
unfolding clean
bad_unclean i n bytes nonzero bad e = true≢false (sym (ap clean e) ∙ clean_at i n bytes nonzero ∙ bad)

without_version : (a b d : Bool) → (a && b && false && d) ≡ false
without_version true true d = refl
without_version true false d = refl
without_version false b d = refl

pub zero_unclean : (n : ℕ) (bytes : List ℕ) → (version_of bytes =? 0) ≡ true → record_fault 0 n (version_of bytes) (image_record 0 bytes) ≡ none → ⊥
unfolding clean
zero_unclean n bytes zero? e =
    let here = image_record 0 bytes in
    true≢false (sym (ap clean e) ∙ clean_record 0 n (version_of bytes) here ∙ rw (first_version bytes, zero?) (without_version (number_test 0 here) (count_test n here) (sum_test here)))

-- the walk over so many records from number i on: no fault in any, or the first of a record, with none before it
module _ (bytes : List ℕ) where
  abbrev n : ℕ
  n = records_of bytes

  abbrev version : ℕ
  version = version_of bytes

  abbrev fault_at : ℕ → Fault
  fault_at j = record_fault j n version (image_record j bytes)

  abbrev walk : (records i : ℕ) → Fault
  walk records i = records_fault records i n version (drop (i * image_record_size) bytes)

  data Walked (records i : ℕ) : Type 0 where
    through : walk records i ≡ none → ((j : ℕ) → i ≤ j → j < i + records → fault_at j ≡ none) → Walked records i
    stopped : (reason : Reason) (k : ℕ) → walk records i ≡ (reason of_record k) → i ≤ k → k < i + records → fault_at k ≡ (reason of_record k)
        → ((j : ℕ) → i ≤ j → j < k → fault_at j ≡ none) → Walked records i

  walk_on : (records i : ℕ) → walk (suc records) i ≡ (fault_at i or_else walk records (i + 1))
  unfolding records_fault
  walk_on records i =
      let place : i * image_record_size + image_record_size ≡ (i + 1) * image_record_size = omega arith in
      let next : drop image_record_size (drop (i * image_record_size) bytes) ≡ drop ((i + 1) * image_record_size) bytes =
      drop-drop image_record_size (i * image_record_size) bytes ∙ ap (λ (at : ℕ). drop at bytes) place in
      rw next

  -- what is said of record i and of those after it
  from : (i : ℕ) (P : ℕ → Type 0) {Q : ℕ → Type 0} → P i → ((j : ℕ) → i + 1 ≤ j → Q j → P j) → (j : ℕ) → i ≤ j → Q j → P j
  from i P here later j h q = go (j =? i) refl
    where
      go : (b : Bool) → (j =? i) ≡ b → P j
      go true e = subst P (sym (eqb-true j i e)) here
      go false e = let apart = eqb-false j i e in later j (omega (arith, h, apart)) q

  walked : (records i : ℕ) → Walked records i
  unfolding records_fault
  walked zero i = through refl (λ j h l. absurd (omega (arith, h, l)))
  walked (suc records) i = at (tested i n version (image_record i bytes)) (walked records (i + 1))
    where
      stop : (reason : Reason) → fault_at i ≡ (reason of_record i) → Walked (suc records) i
      stop reason e = stopped reason i (walk_on records i ∙ ap (λ (f : Fault). f or_else walk records (i + 1)) e) (omega arith) (omega arith) e (λ j h l. absurd (omega (arith, h, l)))

      on : fault_at i ≡ none → Walked records (i + 1) → Walked (suc records) i
      on e (through f all) =
          through (walk_on records i ∙ rw (e, f)) (λ j h l. from i (λ (z : ℕ). fault_at z ≡ none) {Q = λ (z : ℕ). z < i + suc records} e (λ z y x. all z y (omega (arith, x))) j h l)
      on e (stopped reason k f h l g before) =
          stopped reason k (walk_on records i ∙ rw (e, f)) (omega (arith, h)) (omega (arith, l)) g
          (λ j y x. from i (λ (z : ℕ). fault_at z ≡ none) {Q = λ (z : ℕ). z < k} e before j y x)

      at : Tested i n version (image_record i bytes) → Walked records (i + 1) → Walked (suc records) i
      at (all_pass p q r t e) later = on e later
      at (by_number p e) later = stop Number e
      at (by_count p q e) later = stop Count e
      at (by_version p q r e) later = stop Version e
      at (by_sum p q r t e) later = stop Sum e

  -- the tests before one of them, by their numbers
  earlier : (k before : ℕ) → passes Size k bytes ≡ true → (2 < before → passes Number k bytes ≡ true) → (3 < before → passes Count k bytes ≡ true)
      → (4 < before → passes Version k bytes ≡ true) → (5 < before → passes Sum k bytes ≡ true)
      → (test : Reason) → reason_number test < before → passes test k bytes ≡ true
  earlier k before size number count ver sum Size h = size
  earlier k before size number count ver sum Number h = number h
  earlier k before size number count ver sum Count h = count h
  earlier k before size number count ver sum Version h = ver h
  earlier k before size number count ver sum Sum h = sum h

  -- a record without a fault passes every test, and is good
  all_tests : (k : ℕ) → good_size bytes ≡ true → fault_at k ≡ none → (test : Reason) → passes test k bytes ≡ true
  all_tests k size e test = go (tested k n version (image_record k bytes))
    where
      go : Tested k n version (image_record k bytes) → passes test k bytes ≡ true
      go (all_pass p q r t f) = earlier k 6 size (λ h. p) (λ h. q) (λ h. r) (λ h. t) test (below test)
        where
          below : (z : Reason) → reason_number z < 6
          below Size = omega arith
          below Number = omega arith
          below Count = omega arith
          below Version = omega arith
          below Sum = omega arith
      go (by_number p f) = fault_apart (sym e ∙ f)
      go (by_count p q f) = fault_apart (sym e ∙ f)
      go (by_version p q r f) = fault_apart (sym e ∙ f)
      go (by_sum p q r t f) = fault_apart (sym e ∙ f)

  pub good_at : (k : ℕ) → ((test : Reason) → passes test k bytes ≡ true) → good_record k n version (image_record k bytes) ≡ true
  unfolding good_record
  good_at k all = go (k =? 0) refl
    where
      go : (b : Bool) → (k =? 0) ≡ b → good_record k n version (image_record k bytes) ≡ true
      go true e = rw (all Number, all Count, all Sum, first e)
        where
          first : (k =? 0) ≡ true → (number_at 8 4 (image_record k bytes) =? version) ≡ true
          first z = rw (eqb-true k 0 z) (eq-eqb (number_at 8 4 (image_record 0 bytes)) version (first_version bytes))
      go false e = rw (all Number, all Count, all Sum, same e (all Version))
        where
          same : (k =? 0) ≡ false → version_test k version (image_record k bytes) ≡ true → (number_at 8 4 (image_record k bytes) =? version) ≡ true
          same z v = rw z at v

  -- the fault of record k, where the records before have none, is the first
  first_of : (reason : Reason) (k : ℕ) → good_size bytes ≡ true → k < n → fault_at k ≡ (reason of_record k) → ((j : ℕ) → j < k → fault_at j ≡ none) → First reason k bytes
  first_of reason k size h e before = go (tested k n version (image_record k bytes))
    where
      all : (j : ℕ) → j < k → (test : Reason) → passes test j bytes ≡ true
      all j l test = all_tests j size (before j l) test

      make : (r : Reason) → Named r k bytes → fault_at k ≡ (r of_record k) → passes r k bytes ≡ false
          → ((test : Reason) → reason_number test < reason_number r → passes test k bytes ≡ true) → First reason k bytes
      make r m f failing before_it =
          subst (λ (z : Reason). First z k bytes) (ap (reason_or r) (sym f ∙ e))
          (record { named = m; fails = failing; tests_before = before_it; records_before = all; good_before = λ j l. good_at j (all j l) })

      go : Tested k n version (image_record k bytes) → First reason k bytes
      go (all_pass p q r t f) = fault_apart (sym f ∙ e)
      go (by_number p f) = make Number h f p (earlier k 2 size (λ l. absurd (omega (arith, l))) (λ l. absurd (omega (arith, l))) (λ l. absurd (omega (arith, l))) (λ l. absurd (omega (arith, l))))
      go (by_count p q f) = make Count h f q (earlier k 3 size (λ l. p) (λ l. absurd (omega (arith, l))) (λ l. absurd (omega (arith, l))) (λ l. absurd (omega (arith, l))))
      go (by_version p q r f) = make Version h f r (earlier k 4 size (λ l. p) (λ l. q) (λ l. absurd (omega (arith, l))) (λ l. absurd (omega (arith, l))))
      go (by_sum p q r t f) = make Sum h f t (earlier k 5 size (λ l. p) (λ l. q) (λ l. r) (λ l. absurd (omega (arith, l))))

  by_size : good_size bytes ≡ false → First Size 0 bytes
  by_size e =
      record {
        named = refl;
        fails = e;
        tests_before = λ test h. absurd (omega (arith, h, from_1 test));
        records_before = λ j l. absurd (omega (arith, l));
        good_before = λ j l. absurd (omega (arith, l));
      }

  -- what the first fault is: none, with every test of every record passed; or the first
  data Judged : Type 0 where
    no_fault : first_fault bytes ≡ none → good_size bytes ≡ true → ((j : ℕ) → j < n → (test : Reason) → passes test j bytes ≡ true) → Judged
    a_fault : (reason : Reason) (k : ℕ) → first_fault bytes ≡ (reason of_record k) → First reason k bytes → Judged

  which : Judged
  unfolding first_fault
  which = go (good_size bytes) refl
    where
      sized : good_size bytes ≡ true → Walked n 0 → Judged
      sized e (through f all) = no_fault (rw e f) e (λ j l test. all_tests j e (all j (omega arith) (omega (arith, l))) test)
      sized e (stopped reason k f h l g before) =
          a_fault reason k (rw e f) (first_of reason k e (omega (arith, l)) g (λ j y. before j (omega arith) y))

      go : (b : Bool) → good_size bytes ≡ b → Judged
      go false e = a_fault Size 0 (rw e) (by_size e)
      go true e = sized e (walked n 0)

  -- there is one first fault
  not_before : (r q : Reason) (i k : ℕ) → First r i bytes → First q k bytes → i < k → ⊥
  not_before r q i k a b l = true≢false (sym (b.records_before i l r) ∙ a.fails)

  not_above : (r q : Reason) (i k : ℕ) → First r i bytes → First q k bytes → i ≡ k → reason_number r < reason_number q → ⊥
  not_above r q i k a b e l =
      true≢false (sym (subst (λ (z : ℕ). passes r z bytes ≡ true) (sym e) (b.tests_before r l)) ∙ a.fails)

  one_first : (r q : Reason) (i k : ℕ) → First r i bytes → First q k bytes → (r of_record i) ≡ (q of_record k)
  one_first r q i k a b =
      let up = not_before r q i k a b in
      let down = not_before q r k i b a in
      let place : i ≡ k = same_number i k up down in
      let over = not_above r q i k a b place in
      let under = not_above q r k i b a (sym place) in
      λ x. same_reason r q (same_number (reason_number r) (reason_number q) over under) x of_record place x

  first_is_named : (r : Reason) (i : ℕ) → First r i bytes → first_fault bytes ≡ (r of_record i)
  first_is_named r i a = go which
    where
      passed : ((j : ℕ) → j < n → (test : Reason) → passes test j bytes ≡ true) → good_size bytes ≡ true → (z : Reason) → Named z i bytes → passes z i bytes ≡ true
      passed all size Size m = size
      passed all size Number m = all i m Number
      passed all size Count m = all i m Count
      passed all size Version m = all i m Version
      passed all size Sum m = all i m Sum

      go : Judged → first_fault bytes ≡ (r of_record i)
      go (no_fault e size all) = absurd (true≢false (sym (passed all size r a.named) ∙ a.fails))
      go (a_fault q k e b) = e ∙ one_first q r k i b a

  named_is_first : (r : Reason) (i : ℕ) → first_fault bytes ≡ (r of_record i) → First r i bytes
  named_is_first r i f = go which
    where
      go : Judged → First r i bytes
      go (no_fault e size all) = fault_apart (sym e ∙ f)
      go (a_fault q k e b) =
          let same = sym e ∙ f in
          subst (λ (z : ℕ). First r z bytes) (ap (place_or i) same) (subst (λ (z : Reason). First z k bytes) (ap (reason_or r) same) b)

-- what a tick keeps of a fault: a reason from 1 to 5, and a record number up to 127
pub record Kept (reason faulty : ℕ) : Type 0 where
  pub some_reason : 1 ≤ reason
  pub last_reason : reason ≤ 5
  pub last_record : faulty ≤ 127

to_5 : (r : Reason) → reason_number r ≤ 5
to_5 Size = omega arith
to_5 Number = omega arith
to_5 Count = omega arith
to_5 Version = omega arith
to_5 Sum = omega arith

few_records : (bytes : List ℕ) → good_size bytes ≡ true → records_of bytes ≤ 128
few_records bytes e = leb-true (records_of bytes) 128 (and_3 (length bytes =? records_of bytes * image_record_size) (1 ≤? records_of bytes) (records_of bytes ≤? 128) e).2

first_kept : (bytes : List ℕ) (r : Reason) (i : ℕ) → First r i bytes → i ≤ 127
first_kept bytes Size i a = omega (arith, a.named)
first_kept bytes Number i a = omega (arith, a.named, few_records bytes (a.tests_before Size (omega arith)))
first_kept bytes Count i a = omega (arith, a.named, few_records bytes (a.tests_before Size (omega arith)))
first_kept bytes Version i a = omega (arith, a.named, few_records bytes (a.tests_before Size (omega arith)))
first_kept bytes Sum i a = omega (arith, a.named, few_records bytes (a.tests_before Size (omega arith)))

-- what the bytes are says what their first fault is
bad_fault : (f : Fault) (version : ℕ) (r : Reason) (i : ℕ) → judged f version ≡ bad_image r i → f ≡ (r of_record i)
bad_fault none version r i e = let z : ◌≡◌ {A = ℕ} 0 1 = cc in absurd (omega arith)
bad_fault (q of_record k) version r i e =
    let same : ◌≡◌ {A = FirstFault} (record { reason = q; number = k }) (record { reason = r; number = i }) = cc in
    λ x. (same x).reason of_record (same x).number

pub bad_kept : (bytes : List ℕ) (r : Reason) (i : ℕ) → image_of bytes ≡ bad_image r i → Kept (reason_number r) i
unfolding image_of
bad_kept bytes r i e =
    let fault = bad_fault (first_fault bytes) (version_of bytes) r i e in
    record { some_reason = from_1 r; last_reason = to_5 r; last_record = first_kept bytes r i (named_is_first bytes r i fault) }

good_fault : (f : Fault) (own version : ℕ) → judged f own ≡ Ok version → (f ≡ none) × (version ≡ own)
good_fault none own version e = let same : own ≡ version = cc in (refl, sym same)
good_fault (q of_record k) own version e = let z : ◌≡◌ {A = ℕ} 0 1 = cc in absurd (omega arith)

pub is_good : (bytes : List ℕ) (version : ℕ) → (image_of bytes ≡ Ok version) ↔ ((good_image bytes ≡ true) × (version ≡ version_of bytes))
unfolding image_of
is_good bytes version = (
  λ e. let f = good_fault (first_fault bytes) (version_of bytes) version e in (none_good bytes f.0, f.1),
  λ g. rw (good_none bytes g.0, g.1),
)

is_bad : (bytes : List ℕ) (r : Reason) (i : ℕ) → (image_of bytes ≡ bad_image r i) ↔ First r i bytes
unfolding image_of
is_bad bytes r i =
    (λ e. named_is_first bytes r i (bad_fault (first_fault bytes) (version_of bytes) r i e), λ a. rw (first_is_named bytes r i a))

-- T-03.
pub request_T03 : RequestT03
request_T03 =
    record {
      none_if_good = λ bytes. (none_good bytes, good_none bytes);
      the_first = λ bytes reason i. (named_is_first bytes reason i, first_is_named bytes reason i);
      good = is_good;
      bad = is_bad;
    }
