-- Laws of what is written, field by field and record by record.
-- Assumes nothing.
use mathlib.Core.{Path.{◌≡◌, sym, ◌∙◌, ap}, List.{List, ◌++◌, append-nil}}
use Prim.Native.Nat.{ℕ, zero, suc, ◌≤◌, ◌<◌, ◌+◌, ◌-◌, ◌*◌, ◌/◌, ◌%◌, ◌^◌}
use native.Mathlib.Omega.{arith}
use lib.{ListN.{length, take, drop, length-drop}, Seq.{length-take-le, take_all, take_at}}
use borrow.Rule.Slice.PartMut.{put_mid}
use Rattle.rules.{specs.Bytes.{le, zeros, splice}, specs.Image.record_sum}
use Rattle.rules.specs.Made.{parts_of, first_part, unsummed, made_record, made_records, made_image, carried}
use Rattle.rules.{proofs.page.Le.length_le, proofs.page.Records.{sum_of_front, unsummed_long, made_long}, proofs.page.Images.{cut, records_long, one_record_more, carried_long, one_part_more}}
use Rattle.bytes_base.proofs.Parts.{splice_splice, copy_whole, lent_as, rest}

-- a record whose fields were written one after another
pub record_written : (i n version : ℕ) (part old : List ℕ) {first second third fourth last : List ℕ} {sum : ℕ}
    → length part ≡ 112 → length old ≡ 128
    → first ≡ splice 0 (le 2 i) old → second ≡ splice 2 (le 2 n) first → third ≡ splice 4 (le 8 version) second → fourth ≡ splice 12 part third
    → sum ≡ record_sum fourth → last ≡ splice 124 (le 4 sum) fourth
    → last ≡ made_record i n version part
unfolding made_record
record_written i n version part old {fourth = fourth} {sum = sum} whole room e1 e2 e3 e4 s e5 =
    let body : List ℕ = unsummed i n version part in
    let long : length body ≡ 124 = unsummed_long i n version part whole in
    let place : 124 ≡ 0 + length body = omega (arith, long) in
    let two = e2 ∙ ap (splice 2 (le 2 n)) e1 ∙ splice_splice 0 (le 2 i) (le 2 n) old (omega arith) in
    let three = e3 ∙ ap (splice 4 (le 8 version)) two ∙ splice_splice 0 (le 2 i ++ le 2 n) (le 8 version) old (omega arith) in
    let four : fourth ≡ splice 0 body old =
    e4 ∙ ap (splice 12 part) three ∙ splice_splice 0 (le 2 i ++ le 2 n ++ le 8 version) part old (omega arith) in
    let sum_is : sum ≡ record_sum body =
    s ∙ ap record_sum four ∙ ap (λ (k : ℕ). k % 2 ^ 32) (sum_of_front 31 body (drop (0 + length body) old) (rw long (omega arith))) in
    e5 ∙ (λ k. splice 124 (le 4 (sum_is k)) (four k))
    ∙ ap (λ (at : ℕ). splice at (le 4 (record_sum body)) (splice 0 body old)) place
    ∙ splice_splice 0 body (le 4 (record_sum body)) old (omega arith)
    ∙ copy_whole (body ++ le 4 (record_sum body)) old (omega (arith, room, made_long i n version part whole))

-- one record more, right behind those before it
pub record_behind : (i first n version : ℕ) (payload old : List ℕ) {out : List ℕ}
    → out ≡ splice 0 (made_records i first n version payload) old
    → splice (i * 128) (made_record (first + i) n version (first_part (drop (i * 112) payload))) out ≡ splice 0 (made_records (i + 1) first n version payload) old
record_behind i first n version payload old e =
    let done : List ℕ = made_records i first n version payload in
    let made : List ℕ = made_record (first + i) n version (first_part (drop (i * 112) payload)) in
    let place : i * 128 ≡ 0 + length done = omega (arith, records_long i first n version payload) in
    let next : suc i ≡ i + 1 = omega arith in
    (λ k. splice (place k) made (e k))
    ∙ splice_splice 0 done made old (omega arith)
    ∙ ap (λ (l : List ℕ). splice 0 l old) (sym (one_record_more i first n version payload))
    ∙ ap (λ (k : ℕ). splice 0 (made_records k first n version payload) old) next

-- a part of the output that was lent for a record at place i, and came back as one
pub record_lent : (i number n version : ℕ) (out part record' : List ℕ) → i * 128 + 128 ≤ length out → length part ≡ 112 → record' ≡ made_record number n version part
    → put_mid (i * 128) (i * 128 + 128 - i * 128) out record' ≡ splice (i * 128) (made_record number n version part) out
record_lent i number n version out part record' room whole e =
    lent_as (i * 128) 128 out record' room (made_record number n version part) (made_long number n version part whole) e

-- a part that the payload fills is that part, with nothing to pad
pub part_filled : (i : ℕ) (payload : List ℕ) → i * 112 + 112 ≤ length payload
    → take (i * 112 + 112 - i * 112) (drop (i * 112) payload) ≡ first_part (drop (i * 112) payload)
part_filled i payload room =
    let left : List ℕ = drop (i * 112) payload in
    let long : length (take 112 left) ≡ 112 = length-take-le 112 left (rw length-drop (omega arith)) in
    let size : i * 112 + 112 - i * 112 ≡ 112 = omega arith in
    ap (λ (k : ℕ). take k left) size ∙ sym (append-nil (take 112 left)) ∙ ap (λ (k : ℕ). take 112 left ++ zeros (112 - k)) (sym long)

-- one record over the whole of a record's bytes
pub one_record : (number n version : ℕ) (part old : List ℕ) {record' : List ℕ} → length part ≡ 112 → length old ≡ 128
    → record' ≡ splice 0 (made_records 1 number n version part) old → record' ≡ made_record number n version part
unfolding made_records
one_record number n version part old whole room e =
    let own : first_part part ≡ part = sym (part_filled 0 part (omega (arith, whole))) ∙ take_all 112 part (omega (arith, whole)) in
    e ∙ ap (λ (l : List ℕ). splice 0 l old) (append-nil (made_record number n version (first_part part)) ∙ ap (made_record number n version) own)
    ∙ copy_whole (made_record number n version part) old (omega (arith, room, made_long number n version part whole))

drop_zeros : (k n : ℕ) → drop k (zeros n) ≡ zeros (n - k)
drop_zeros zero n =
    let same : n ≡ n - 0 = omega arith in
    ap zeros same
drop_zeros (suc k) zero =
    let none : 0 ≡ 0 - suc k = omega arith in
    ap zeros none
drop_zeros (suc k) (suc n) =
    let same : n - k ≡ suc n - suc k = omega arith in
    drop_zeros k n ∙ ap zeros same

-- what is left of the payload, copied over zeros, is the last part padded
pub part_padded : (at : ℕ) (payload : List ℕ) {part : List ℕ} → at ≤ length payload → length payload ≤ at + 112
    → part ≡ splice 0 (take (length payload - at) (drop at payload)) (zeros 112) → part ≡ first_part (drop at payload)
part_padded at payload inside short e =
    let left : List ℕ = drop at payload in
    let few : length left ≤ 112 = rw length-drop (omega arith) in
    let all : take (length payload - at) left ≡ take 112 left = rest at payload ∙ sym (take_all 112 left few) in
    let none : 0 + length (take 112 left) ≡ length (take 112 left) = omega arith in
    e ∙ ap (λ (l : List ℕ). splice 0 l (zeros 112)) all
    ∙ ap (λ (l : List ℕ). take 112 left ++ l) (drop_zeros (0 + length (take 112 left)) 112 ∙ ap (λ (k : ℕ). zeros (112 - k)) none)

-- the full parts of a payload are all of its parts, or all but the last
pub full_few : (payload : List ℕ) {n : ℕ} → n ≡ parts_of payload → length payload / 112 ≤ n
full_few payload e = omega (arith, e, (cut payload).enough)

-- of 14,336 bytes there are at most 128
pub few_parts : (payload : List ℕ) {n : ℕ} → n ≡ parts_of payload → length payload ≤ 14336 → n ≤ 128
few_parts payload e fits = omega (arith, e, fits, (cut payload).no_more)

module _ (version : ℕ) (payload old : List ℕ) {n : ℕ} (count : n ≡ parts_of payload) where
  pub all_and_last : {out : List ℕ} → length payload / 112 < n → out ≡ splice 0 (made_records (length payload / 112) 0 n version payload) old
      → splice (length payload / 112 * 128) (made_record (length payload / 112) n version (first_part (drop (length payload / 112 * 112) payload))) out
      ≡ splice 0 (made_image payload version) old
  unfolding made_image
  all_and_last {out} more e =
      let all : length payload / 112 + 1 ≡ parts_of payload = omega (arith, count, more, (cut payload).no_more, (cut payload).some) in
      let number : length payload / 112 ≡ 0 + length payload / 112 = omega arith in
      ap (λ (k : ℕ). splice (length payload / 112 * 128) (made_record k n version (first_part (drop (length payload / 112 * 112) payload))) out) number
      ∙ record_behind (length payload / 112) 0 n version payload old e ∙ (λ k. splice 0 (made_records (all k) 0 (count k) version payload) old)

  pub all_full : {out : List ℕ} → n ≤ length payload / 112 → out ≡ splice 0 (made_records (length payload / 112) 0 n version payload) old
      → out ≡ splice 0 (made_image payload version) old
  unfolding made_image
  all_full none e =
      let all : length payload / 112 ≡ parts_of payload = omega (arith, count, none, full_few payload count) in
      e ∙ (λ k. splice 0 (made_records (all k) 0 (count k) version payload) old)

-- the next record's part, right behind those before it
pub part_behind : (i : ℕ) (image old : List ℕ) {out part : List ℕ} → i * 128 ≤ length image
    → out ≡ splice 0 (carried i image) old → part ≡ splice (i * 112) (take (i * 128 + 12 + 112 - (i * 128 + 12)) (drop (i * 128 + 12) image)) out
    → part ≡ splice 0 (carried (i + 1) image) old
part_behind i image old room done e =
    let before : List ℕ = carried i image in
    let size : i * 128 + 12 + 112 - (i * 128 + 12) ≡ 112 = omega arith in
    let place : i * 112 ≡ 0 + length before = omega (arith, carried_long i image room) in
    let next : suc i ≡ i + 1 = omega arith in
    e ∙ (λ k. splice (place k) (take (size k) (drop (i * 128 + 12) image)) (done k))
    ∙ splice_splice 0 before (take 112 (drop (i * 128 + 12) image)) old (omega arith)
    ∙ ap (λ (l : List ℕ). splice 0 l old) (sym (one_part_more i image))
    ∙ ap (λ (k : ℕ). splice 0 (carried k image) old) next
