-- What the code's tests say of the slots, and what each function gives and writes by them.
-- Assumes nothing.
use mathlib.Core.{Path.{◌≡◌, refl, sym, ◌∙◌, ap}, Bool.{Bool, true, false, not, ◌&&◌}, List.{List, [], ◌∷◌, ◌++◌, append-nil}}
use Prim.Native.Nat.{ℕ, suc, ◌≤◌, ◌<◌, ◌+◌, ◌-◌, ◌^◌}
use native.Mathlib.Omega.{arith}
use lib.{IntN.{ℤ, pos}, ListN.{length, take, drop, set, length-append, length-drop, drop_of_length-le}, Seq.length-take-le}
use borrow.{Author.Tests.{not-true, not-false, eqb-true, leb-true, eq-eqb, ne_eqb, le-leb}, Rule.Slice.PartMut.put_mid}
use mir.{Syntax.w32, Val.{to_z, hbits}, Facts.to_z_pos}
use Rattle.rules.{specs.Tests.{◌≤?◌, ◌=?◌}, specs.Bytes.{splice, zeros}, specs.Record.fresh_cabinet, proofs.page.Choice.and_true}
use Rattle.bytes_base.proofs.Parts.{lent, splice_splice, copy_whole}
use Rattle.device_bytes.specs.Encoding.{encode_of}
use Rattle.cabinet_bytes.specs.Encoding.{cabinet_size, encode_cabinet}
use Rattle.cabinet_slots.specs.Slots.{slots_size, slot_place, slot, selector, other, slots?, refused, fresh_number, fresh_slots, write_number, write_slots, select_number, select_slots, read_number, read_record}

pub record Fine (slots : List ℕ) : Type 0 where
  pub long : length slots ≡ slots_size
  pub low : selector slots ≤ 1

pub fine : (slots : List ℕ) → slots? slots ≡ true → Fine slots
unfolding slots?
fine slots e =
    let both = and_true (length slots =? slots_size) (selector slots ≤? 1) e in
    record { long = eqb-true (length slots) slots_size both.0; low = leb-true (selector slots) 1 both.1 }

pub are_slots : (slots : List ℕ) → Fine slots → slots? slots ≡ true
unfolding slots?
are_slots slots f = rw (eq-eqb (length slots) slots_size f.long, le-leb (selector slots) 1 f.low) refl

-- the test of a call, of its slots and of what it was given besides
module _ (slots : List ℕ) {r : Bool} (t : Bool) (tested : r ≡ slots? slots) where
  turned_away : not (r && t) ≡ true → (slots? slots && t) ≡ false
  turned_away h = ap (λ (x : Bool). x && t) (sym tested) ∙ not-true (r && t) h

  let_in : not (r && t) ≡ false → (slots? slots && t) ≡ true
  let_in h = ap (λ (x : Bool). x && t) (sym tested) ∙ not-false (r && t) h

  pub slots_fine : not (r && t) ≡ false → Fine slots
  slots_fine h = fine slots (and_true (slots? slots) t (let_in h)).0

  pub rest_true : not (r && t) ≡ false → t ≡ true
  rest_true h = (and_true (slots? slots) t (let_in h)).1

module _ (slots bytes : List ℕ) {r : Bool} (tested : r ≡ slots? slots) where
  pub not_written : not (r && length bytes =? cabinet_size) ≡ true → (refused ≡ write_number slots bytes) × (slots ≡ write_slots slots bytes)
  not_written h = rw (turned_away slots (length bytes =? cabinet_size) tested h) (refl, refl)

  pub written : {z : ℤ} {slots' : List ℕ} → not (r && length bytes =? cabinet_size) ≡ false → z ≡ to_z w32 (other slots) → slots' ≡ splice (slot_place (other slots)) bytes slots
      → (z ≡ write_number slots bytes) × (slots' ≡ write_slots slots bytes)
  written h p q =
      let small : other slots < 2 ^ hbits w32 = omega arith in
      rw (let_in slots (length bytes =? cabinet_size) tested h) (p ∙ to_z_pos w32 small, q)

module _ (slots : List ℕ) (k : ℕ) {r : Bool} (tested : r ≡ slots? slots) where
  pub not_selected : not (r && k ≤? 1) ≡ true → (refused ≡ select_number slots k) × (slots ≡ select_slots slots k)
  not_selected h = rw (turned_away slots (k ≤? 1) tested h) (refl, refl)

  set_first : (l : List ℕ) → 1 ≤ length l → set l 0 k ≡ k ∷ drop 1 l
  set_first [] h = absurd (omega arith)
  set_first (x ∷ xs) h = refl

  pub selected : not (r && k ≤? 1) ≡ false → (pos 0 ≡ select_number slots k) × (set slots 0 k ≡ select_slots slots k)
  selected h =
      let f = slots_fine slots (k ≤? 1) tested h in
      rw (let_in slots (k ≤? 1) tested h) (refl, set_first slots (omega arith))

module _ (slots buffer : List ℕ) {r : Bool} (tested : r ≡ slots? slots) where
  pub not_read : not (r && length buffer =? cabinet_size) ≡ true → (refused ≡ read_number slots buffer) × (buffer ≡ read_record slots buffer)
  not_read h = rw (turned_away slots (length buffer =? cabinet_size) tested h) (refl, refl)

  pub read_over : {buffer' : List ℕ} → not (r && length buffer =? cabinet_size) ≡ false
      → buffer' ≡ splice 0 (take (slot_place (selector slots) + 288 - slot_place (selector slots)) (drop (slot_place (selector slots)) slots)) buffer
      → (pos 0 ≡ read_number slots buffer) × (buffer' ≡ read_record slots buffer)
  unfolding slot
  read_over h q =
      let at : ℕ = slot_place (selector slots) in
      let f = slots_fine slots (length buffer =? cabinet_size) tested h in
      let room : length buffer ≡ cabinet_size = eqb-true (length buffer) cabinet_size (rest_true slots (length buffer =? cabinet_size) tested h) in
      let all : at + 288 - at ≡ cabinet_size = omega arith in
      let left : cabinet_size ≤ length (drop at slots) = rw length-drop (omega arith) in
      let long : length (take cabinet_size (drop at slots)) ≡ cabinet_size = length-take-le cabinet_size (drop at slots) left in
      rw (let_in slots (length buffer =? cabinet_size) tested h)
      (refl, q ∙ ap (λ (n : ℕ). splice 0 (take n (drop at slots)) buffer) all ∙ copy_whole (take cabinet_size (drop at slots)) buffer (omega arith))

-- a fresh cabinet's slots
pub fresh_long : length (encode_cabinet fresh_cabinet) ≡ cabinet_size
unfolding encode_cabinet encode_of
fresh_long = refl

module _ (slots : List ℕ) where
  pub not_fresh : (length slots ≡ slots_size → ⊥) → (refused ≡ fresh_number slots) × (slots ≡ fresh_slots slots)
  not_fresh h = rw (ne_eqb (length slots) slots_size h) (refl, refl)

  first_set : (l rest : List ℕ) → 1 ≤ length l → set (take 1 l ++ rest) 0 0 ≡ 0 ∷ rest
  first_set [] rest h = absurd (omega arith)
  first_set (x ∷ xs) rest h = refl

  -- the record at 1, zeros at 289, then the selector
  pub made : {part last : List ℕ} → length slots ≡ slots_size → part ≡ encode_cabinet fresh_cabinet → last ≡ splice 289 (zeros cabinet_size) (put_mid 1 288 slots part)
      → set last 0 0 ≡ 0 ∷ (encode_cabinet fresh_cabinet ++ zeros cabinet_size)
  made {part} {last} h p q =
      let e : List ℕ = encode_cabinet fresh_cabinet in
      let both : length (e ++ zeros cabinet_size) ≡ 576 = length-append e (zeros cabinet_size) ∙ ap (λ (n : ℕ). n + 288) fresh_long in
      let none : drop (1 + length (e ++ zeros cabinet_size)) slots ≡ [] = drop_of_length-le slots {i = 1 + length (e ++ zeros cabinet_size)} (omega arith) in
      ap (λ (l : List ℕ). set l 0 0)
      (q
      ∙ ap (splice 289 (zeros cabinet_size)) (lent 1 289 slots part (omega arith) (ap (λ (l : List ℕ). 1 + length l) p ∙ ap (λ (n : ℕ). 1 + n) fresh_long) ∙ ap (λ (l : List ℕ). splice 1 l slots) p)
      ∙ ap (λ (n : ℕ). splice (1 + n) (zeros cabinet_size) (splice 1 e slots)) (sym fresh_long)
      ∙ splice_splice 1 e (zeros cabinet_size) slots (omega arith))
      ∙ first_set slots ((e ++ zeros cabinet_size) ++ drop (1 + length (e ++ zeros cabinet_size)) slots) (omega arith)
      ∙ ap (λ (l : List ℕ). 0 ∷ (e ++ zeros cabinet_size ++ l)) none
      ∙ ap (λ (l : List ℕ). 0 ∷ l) (append-nil (e ++ zeros cabinet_size))

  pub fresh_whole : {slots' : List ℕ} → length slots ≡ slots_size → slots' ≡ 0 ∷ (encode_cabinet fresh_cabinet ++ zeros cabinet_size)
      → (pos 0 ≡ fresh_number slots) × (slots' ≡ fresh_slots slots)
  fresh_whole h q = rw (eq-eqb (length slots) slots_size h) (refl, q)

  pub fresh_length : {slots' : List ℕ} → length slots ≡ slots_size → slots' ≡ 0 ∷ (encode_cabinet fresh_cabinet ++ zeros cabinet_size) → length slots' ≡ length slots
  fresh_length h q =
      ap length q ∙ ap suc (length-append (encode_cabinet fresh_cabinet) (zeros cabinet_size) ∙ ap (λ (n : ℕ). n + 288) fresh_long) ∙ sym h
