-- T-06 written out, from its theorem and, byte by byte, from the laws of places; its examples, by computation over the definitions.
-- Assumes nothing.
use Prim.Native.Nat.{ℕ, zero, suc, min, ◌+◌, ◌-◌, ◌*◌, ◌/◌, ◌<◌, ◌≤◌}
use mathlib.Core.{Path.{◌≡◌, refl, sym, ◌∙◌, ap, subst}, Logic.◌↔◌, Bool.{Bool, true, false, not, ◌||◌, true≢false}, List.{List, [], ◌∷◌, map}}
use native.Mathlib.Omega.{arith}
use borrow.Author.Tests.{not-false}
use lib.{ListN.{length, take, drop, get_or, length-take, length-drop}, Seq.{get_or-take, get_or-drop, ext_get_or, take_all, take-length}}
use Rattle.rules.specs.{Tests.◌=?◌, Bytes.same?, Text.decimal, Log.record_at}
use Rattle.rules.specs.Compare.{compared, Difference, differences, place_equal, place_fields, rest_after, differences_to, leading_to, compare_text, listed?, any?, Rising, FieldsTold}
use Rattle.rules.specs.Compare.{Comparison}
use Rattle.rules.proofs.page.{Places.{same_refl, same_true}, Compared.{request_T06}}
use Rattle.rules_demands.specs.Comparisons.{numbers, among, SameBytes, reported, ComparisonsWrittenOut, ComparisonsHeld}

among_listed : (j : ℕ) (ds : List Difference) → among j (numbers ds) ≡ listed? j ds
among_listed j [] = refl
among_listed j (d ∷ ds) = ap (λ (t : Bool). d.place =? j || t) (among_listed j ds)

rising_order : (from : ℕ) (ds : List Difference) (i : ℕ) → Rising from ds → suc i < length ds → get_or (numbers ds) i 0 < get_or (numbers ds) (suc i) 0
rising_order from [] i r h = absurd (omega arith)
rising_order from (d ∷ []) i r h = absurd (omega arith)
rising_order from (d ∷ e ∷ ds) zero r h = r.1.0
rising_order from (d ∷ e ∷ ds) (suc i) r h = rising_order (suc d.place) (e ∷ ds) i r.1 (omega arith)

fields_by_place : (at : ℕ → List Bool) (ds : List Difference) → FieldsTold at ds → map (λ d. d.fields) ds ≡ map at (numbers ds)
fields_by_place at [] t = refl
fields_by_place at (d ∷ ds) t = cc (t.0, fields_by_place at ds t.1)

-- ---- a place, byte by byte
module _ (first second : List ℕ) where
  -- a byte of a place, as it stands in the log
  byte : (j k : ℕ) → j * 544 ≤ k → k < j * 544 + 544 → k < length second → get_or (record_at (compared first second) j) (k - j * 544) 0 ≡ get_or first k 0
  byte j k low high inside =
      let e : j * 544 + (k - j * 544) ≡ k = omega arith in
      get_or-take 544 (drop (j * 544) (compared first second)) (k - j * 544) 0 (omega arith)
      ∙ get_or-drop (j * 544) (compared first second) (k - j * 544) 0
      ∙ ap (λ (n : ℕ). get_or (compared first second) n 0) e
      ∙ get_or-take (length second) first k 0 inside

  -- so many bytes of a place are compared
  size : (j : ℕ) → length (record_at (compared first second) j) ≡ min 544 (min (length second) (length first) - j * 544)
  size j =
      length-take 544 (drop (j * 544) (compared first second))
      ∙ ap (min 544) (length-drop (j * 544) (compared first second) ∙ ap (λ (n : ℕ). n - j * 544) (length-take (length second) first))

module _ (first second : List ℕ) (j : ℕ) where
  by_bytes : (k : ℕ) → place_equal first second j ≡ true → j * 544 ≤ k → k < j * 544 + 544 → k < length first → k < length second → get_or first k 0 ≡ get_or second k 0
  by_bytes k e low high f s =
      sym (byte first second j k low high s)
      ∙ ap (λ (bytes : List ℕ). get_or bytes (k - j * 544) 0) (same_true (record_at (compared first second) j) (record_at (compared second first) j) e)
      ∙ byte second first j k low high f

  from_bytes : ((k : ℕ) → j * 544 ≤ k → k < j * 544 + 544 → k < length first → k < length second → get_or first k 0 ≡ get_or second k 0) → place_equal first second j ≡ true
  from_bytes e =
      let one : List ℕ = record_at (compared first second) j in
      let other : List ℕ = record_at (compared second first) j in
      let a : length one ≡ min 544 (min (length second) (length first) - j * 544) = size first second j in
      let b : length other ≡ min 544 (min (length first) (length second) - j * 544) = size second first j in
      let long : length one ≡ length other = omega (arith, a, b) in
      let is : one ≡ other = ext_get_or 0 one other long (λ i h. here i (omega (arith, a))) in
      ap (same? one) (sym is) ∙ same_refl one
    where
      here : (i : ℕ) → i < min 544 (min (length second) (length first) - j * 544)
          → get_or (record_at (compared first second) j) i 0 ≡ get_or (record_at (compared second first) j) i 0
      here i h =
          let back : j * 544 + i - j * 544 ≡ i = omega arith in
          ap (λ (n : ℕ). get_or (record_at (compared first second) j) n 0) (sym back)
          ∙ byte first second j (j * 544 + i) (omega arith) (omega arith) (omega arith)
          ∙ e (j * 544 + i) (omega arith) (omega arith) (omega arith) (omega arith)
          ∙ sym (byte second first j (j * 544 + i) (omega arith) (omega arith) (omega arith))
          ∙ ap (λ (n : ℕ). get_or (record_at (compared second first) j) n 0) back

-- ---- a field, byte by byte: n bytes from the place's byte lo on
abbrev part : (first second : List ℕ) (j lo n : ℕ) → List ℕ
part first second j lo n = take n (drop lo (record_at (compared first second) j))

module _ (first second : List ℕ) (j lo n : ℕ) where
  part_byte : (k : ℕ) → lo + n ≤ 544 → j * 544 + lo ≤ k → k < j * 544 + (lo + n) → k < length second → get_or (part first second j lo n) (k - (j * 544 + lo)) 0 ≡ get_or first k 0
  part_byte k most low high inside =
      let e : lo + (k - (j * 544 + lo)) ≡ k - j * 544 = omega arith in
      get_or-take n (drop lo (record_at (compared first second) j)) (k - (j * 544 + lo)) 0 (omega arith)
      ∙ get_or-drop lo (record_at (compared first second) j) (k - (j * 544 + lo)) 0
      ∙ ap (λ (i : ℕ). get_or (record_at (compared first second) j) i 0) e
      ∙ byte first second j k (omega arith) (omega arith) inside

  part_size_law : length (part first second j lo n) ≡ min n (min 544 (min (length second) (length first) - j * 544) - lo)
  part_size_law =
      length-take n (drop lo (record_at (compared first second) j))
      ∙ ap (min n) (length-drop lo (record_at (compared first second) j) ∙ ap (λ (i : ℕ). i - lo) (size first second j))

module _ (first second : List ℕ) (j lo n : ℕ) (most : lo + n ≤ 544) where
  abbrev one : List ℕ
  one = part first second j lo n

  abbrev other : List ℕ
  other = part second first j lo n

  part_same : not (same? one other) ≡ false → SameBytes first second j lo (lo + n)
  part_same e k low high f s =
      sym (part_byte first second j lo n k most low high s)
      ∙ ap (λ (bytes : List ℕ). get_or bytes (k - (j * 544 + lo)) 0) (same_true one other (not-false (same? one other) e))
      ∙ part_byte second first j lo n k most low high f

  same_part : SameBytes first second j lo (lo + n) → not (same? one other) ≡ false
  same_part e =
      let either : min (length second) (length first) ≡ min (length first) (length second) = omega arith in
      let a : length one ≡ min n (min 544 (min (length second) (length first) - j * 544) - lo) = part_size_law first second j lo n in
      let b : length other ≡ min n (min 544 (min (length first) (length second) - j * 544) - lo) = part_size_law second first j lo n in
      let long : length one ≡ length other = a ∙ ap (λ (m : ℕ). min n (min 544 (m - j * 544) - lo)) either ∙ sym b in
      let is : one ≡ other = ext_get_or 0 one other long (λ i h. here i (inside i n (min (length second) (length first)) (j * 544) lo (subst (λ (m : ℕ). i < m) a h))) in
      ap not (ap (same? one) (sym is) ∙ same_refl one)
    where
      inside : (i n m from lo : ℕ) → i < min n (min 544 (m - from) - lo) → (i < n) × (from + lo + i < m)
      inside i n m from lo h = (omega arith, omega arith)

      here : (i : ℕ) → (i < n) × (j * 544 + lo + i < min (length second) (length first)) → get_or one i 0 ≡ get_or other i 0
      here i h =
          let short : i < n = h.0 in
          let both : j * 544 + lo + i < min (length second) (length first) = h.1 in
          let f : j * 544 + lo + i < length first = omega arith in
          let s : j * 544 + lo + i < length second = omega arith in
          let back : j * 544 + lo + i - (j * 544 + lo) ≡ i = omega arith in
          ap (λ (m : ℕ). get_or one m 0) (sym back)
          ∙ part_byte first second j lo n (j * 544 + lo + i) most (omega arith) (omega arith) s
          ∙ e (j * 544 + lo + i) (omega arith) (omega arith) f s
          ∙ sym (part_byte second first j lo n (j * 544 + lo + i) most (omega arith) (omega arith) f)
          ∙ ap (λ (m : ℕ). get_or other m 0) back

  by_part : (not (same? one other) ≡ false) ↔ SameBytes first second j lo (lo + n)
  by_part = (part_same, same_part)

-- the request is what is past the first 8 bytes, which are 536 at most
past_8 : (first second : List ℕ) (j : ℕ) → part first second j 8 536 ≡ drop 8 (record_at (compared first second) j)
past_8 first second j =
    let l : length (drop 8 (record_at (compared first second) j)) ≡ length (record_at (compared first second) j) - 8 = length-drop 8 (record_at (compared first second) j) in
    let s : length (record_at (compared first second) j) ≡ min 544 (min (length second) (length first) - j * 544) = size first second j in
    take_all 536 (drop 8 (record_at (compared first second) j)) (omega (arith, l, s))

by_request : (first second : List ℕ) (j : ℕ)
    → (not (same? (drop 8 (record_at (compared first second) j)) (drop 8 (record_at (compared second first) j))) ≡ false) ↔ SameBytes first second j 8 544
by_request first second j =
    subst (λ (bytes : List ℕ). (not (same? bytes (drop 8 (record_at (compared second first) j))) ≡ false) ↔ SameBytes first second j 8 544) (past_8 first second j)
    (subst (λ (bytes : List ℕ). (not (same? (part first second j 8 536) bytes) ≡ false) ↔ SameBytes first second j 8 544) (past_8 second first j)
    (by_part first second j 8 536 (omega arith)))

-- where none differs
abbrev nones : List Bool → List Bool
nones bs = map (λ b. false) bs

any_none : (bs : List Bool) → any? bs ≡ false → bs ≡ nones bs
any_none [] e = refl
any_none (true ∷ bs) e = absurd (true≢false e)
any_none (false ∷ bs) e = ap (λ (l : List Bool). false ∷ l) (any_none bs e)

pub written_out : ComparisonsWrittenOut
written_out =
    record {
      means_equal = λ first second. (request_T06 first second).means_equal;
      none_in_equal = λ log. ((request_T06 log log).other_way_round refl).0;
      none_left_in_equal = λ log. ((request_T06 log log).other_way_round refl).1;
      report_means_equal = λ first second. (request_T06 first second).report_means_equal;
      report_of_equal = λ log room.
          (request_T06 log log).report_of_equal room refl
          ∙ ap (λ (bytes : List ℕ). reported ((length bytes + 543) / 544) 0 0) (take-length log);
      bytes_equal = by_bytes;
      equal_by_bytes = from_bytes;
      no_field = λ first second j e. any_none (place_fields first second j) ((request_T06 first second).six_fields j ∙ ap not e);
      equal_by_fields = λ first second j e. not-false (place_equal first second j) (sym ((request_T06 first second).six_fields j) ∙ ap any? e);
      kind_by_bytes = λ first second j. by_part first second j 0 1 (omega arith);
      host_by_bytes = λ first second j. by_part first second j 1 1 (omega arith);
      revision_by_bytes = λ first second j. by_part first second j 2 2 (omega arith);
      function_by_bytes = λ first second j. by_part first second j 4 2 (omega arith);
      length_by_bytes = λ first second j. by_part first second j 6 2 (omega arith);
      request_by_bytes = by_request;
      a_byte_compared = λ first second j h. let l = length-take (length second) first in (omega arith, omega arith);
      every_byte_compared = λ first second k f s. let l = length-take (length second) first in omega arith;
      listed = λ first second j. among_listed j (differences first second) ∙ (request_T06 first second).listed j;
      in_order = λ first second i. rising_order 0 (differences first second) i (request_T06 first second).rising;
      with_fields = λ first second. fields_by_place (place_fields first second) (differences first second) (request_T06 first second).fields_told;
      leads = λ first second. (request_T06 first second).leads;
      leads_places = λ first second. (request_T06 first second).leads_places;
      stops = λ first second. (request_T06 first second).stops;
      rest_of_first = λ first second h. ((request_T06 first second).first_longer h).0;
      rest_of_second = λ first second h. ((request_T06 first second).second_longer h).0;
      makes_first = λ first second h. ((request_T06 first second).first_longer h).1;
      makes_second = λ first second h. ((request_T06 first second).second_longer h).1;
      left_over = λ first second. refl;
      holds = λ first second. (request_T06 first second).holds;
      full = λ first second. (request_T06 first second).full;
      list_written = λ first second. (request_T06 first second).list_written;
      list_stays = λ first second. (request_T06 first second).list_stays;
      rest_handed_back = λ first second room h. ap (λ (r : Comparison). rest_after r first second) ((request_T06 first second).holds room h);
      end_handed_back = λ first second. (request_T06 first second).empty_end;
    }

pub comparisons_held : ComparisonsHeld
unfolding same? decimal differences_to leading_to compare_text
comparisons_held =
    record {
      six_fields = refl;
      printed = refl;
      cut_fields = refl;
      byte_8 = refl;
      alike_behind = refl;
      both_empty = refl;
      room_is = refl;
      equal_printed = refl;
      all_fields_printed = refl;
      full_printed = refl;
      cut_leads = refl;
      just_full = refl;
      not_touched = refl;
      written = refl;
      from_first = refl;
      from_second = refl;
      full_hands_none = refl;
    }
