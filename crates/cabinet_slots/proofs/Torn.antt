-- Power may go at any moment of an update: specs/Torn.antt, proved. The selector and the selected slot lie outside of what a write touches, byte by byte.
-- Assumes nothing.
use mathlib.Core.{Path.{◌≡◌, refl, sym, ◌∙◌, ap}, Logic.{◌⊎◌, inl, inr, ⊎_elim}, Bool.{Bool, true, false, ◌&&◌}, List.{List, [], ◌∷◌, ◌++◌}}
use Prim.Native.Nat.{ℕ, zero, suc, ◌≤◌, ◌<◌, ◌+◌, ◌-◌, ◌*◌}
use native.Mathlib.Omega.{arith}
use lib.{IntN.pos, ListN.{length, get_or, take, drop, length-append, length-drop}, Seq.{take_at, length-take-le, ext_get_or}}
use borrow.Author.Tests.{eqb-true, eq-eqb, leb-true, le-leb}
use Rattle.std.specs.Prelude.{if◌then◌else◌}
use Rattle.rules.{specs.Tests.{◌≤?◌, ◌=?◌}, specs.Bytes.{splice, zeros}, specs.Record.fresh_cabinet, proofs.page.Choice.and_true}
use Rattle.cabinet_bytes.specs.Encoding.{cabinet_size, encode_cabinet}
use Rattle.cabinet_slots.specs.Slots.{slots_size, slot_place, slot, selector, other, slots?, refused, writable, write_number, write_slots, selectable, select_number, select_slots}
use Rattle.cabinet_slots.specs.Torn.{Torn, Reads, WriteLeaves, WriteKeeps, SelectWhole, SelectOnce, SelectGives, FreshReads, NoSlots, Updates}
use Rattle.cabinet_slots.proofs.{Tested.{Fine, fine, are_slots, fresh_long}, Parts.{outside, same_part, there, behind_first}}

-- ---- What is read ----

-- reading gives these bytes: the slots are fine, and the selected one holds them
record Held (slots bytes : List ℕ) : Type 0 where
  good : Fine slots
  holds : slot (selector slots) slots ≡ bytes

reads : (slots bytes : List ℕ) → Held slots bytes → Reads slots bytes
reads slots bytes h buffer l = rw (are_slots slots h.good, eq-eqb (length buffer) cabinet_size l) (refl, h.holds)

held : (slots bytes : List ℕ) → Reads slots bytes → Held slots bytes
held slots bytes r = go (slots? slots) refl (r (zeros cabinet_size) refl)
  where
    go : (t : Bool) → slots? slots ≡ t
        → ((if t && true then pos 0 else refused) ≡ pos 0) × ((if t && true then slot (selector slots) slots else zeros cabinet_size) ≡ bytes)
        → Held slots bytes
    go true e p = record { good = fine slots e; holds = p.1 }
    go false e p = let q = p.0 in let z : ◌≡◌ {A = ℕ} 0 1 = cc in absurd (omega arith)

-- ---- A write ----

-- what a write asks
record Writes (slots bytes : List ℕ) : Type 0 where
  good : Fine slots
  room : length bytes ≡ cabinet_size

writes : (slots bytes : List ℕ) → writable slots bytes ≡ true → Writes slots bytes
writes slots bytes e =
    let both = and_true (slots? slots) (length bytes =? cabinet_size) e in
    record { good = fine slots both.0; room = eqb-true (length bytes) cabinet_size both.1 }

may_write : (slots bytes : List ℕ) → Writes slots bytes → writable slots bytes ≡ true
may_write slots bytes w = rw (are_slots slots w.good, eq-eqb (length bytes) cabinet_size w.room) refl

-- a byte of one slot lies before or behind all of the other
apart : (s i : ℕ) → s ≤ 1 → i < 288 → (slot_place s + i < slot_place (1 - s)) ⊎ (slot_place (1 - s) + 288 ≤ slot_place s + i)
apart zero i h k = inl (omega arith)
apart (suc zero) i h k = inr (omega arith)
apart (suc (suc s)) i h k = absurd (omega arith)

-- the selector, the selected slot's bytes and the length, after a write
module _ (slots new : List ℕ) where
  selector_same : selector (write_slots slots new) ≡ selector slots
  selector_same = go (writable slots new) refl
    where
      go : (t : Bool) → writable slots new ≡ t → selector (write_slots slots new) ≡ selector slots
      go false e = rw e refl
      go true e =
          let w = writes slots new e in
          rw e (outside (slot_place (other slots)) new slots 0 (omega (arith, w.room, w.good.long, w.good.low)) (inl (omega arith)))

  slot_same : selector slots ≤ 1 → (i : ℕ) → i < 288
      → get_or (write_slots slots new) (slot_place (selector slots) + i) 0 ≡ get_or slots (slot_place (selector slots) + i) 0
  slot_same low i h = go (writable slots new) refl
    where
      go : (t : Bool) → writable slots new ≡ t
          → get_or (write_slots slots new) (slot_place (selector slots) + i) 0 ≡ get_or slots (slot_place (selector slots) + i) 0
      go false e = rw e refl
      go true e =
          let w = writes slots new e in
          let inside : slot_place (other slots) + length new ≤ length slots = omega (arith, w.room, w.good.long) in
          rw e (outside (slot_place (other slots)) new slots (slot_place (selector slots) + i) inside (rw w.room (apart (selector slots) i low h)))

  length_same : length (write_slots slots new) ≡ length slots
  length_same = go (writable slots new) refl
    where
      go : (t : Bool) → writable slots new ≡ t → length (write_slots slots new) ≡ length slots
      go false e = rw e refl
      go true e =
          let w = writes slots new e in
          let at : ℕ = slot_place (other slots) in
          let inside : at + length new ≤ length slots = omega (arith, w.room, w.good.long, w.good.low) in
          rw e (simp (length-append, length-drop, length-take-le at slots (omega arith)) (omega arith))

pub write_leaves : WriteLeaves
unfolding slot
write_leaves slots new = (selector_same slots new, go (writable slots new) refl)
  where
    go : (t : Bool) → writable slots new ≡ t → slot (selector slots) (write_slots slots new) ≡ slot (selector slots) slots
    go false e = rw e refl
    go true e =
        same_part (write_slots slots new) slots (slot_place (selector slots)) cabinet_size (length_same slots new) (slot_same slots new (writes slots new e).good.low)

-- where before and after are the same, so is what power left
same_byte : {before after found : List ℕ} → Torn before after found → (i : ℕ) → get_or after i 0 ≡ get_or before i 0 → get_or found i 0 ≡ get_or before i 0
same_byte t i e = ⊎_elim (λ p. p) (λ p. p ∙ e) (t.each i)

pub write_keeps : WriteKeeps
unfolding slot
write_keeps slots new found old r t =
    let h = held slots old r in
    let at : ℕ = slot_place (selector slots) in
    let first : selector found ≡ selector slots = same_byte t 0 (selector_same slots new) in
    let kept : (i : ℕ) → i < 288 → get_or found (at + i) 0 ≡ get_or slots (at + i) 0 = λ i n. same_byte t (at + i) (slot_same slots new h.good.low i n) in
    reads found old
    record {
      good = record { long = t.long ∙ h.good.long; low = omega (arith, first, h.good.low) };
      holds = ap (λ (k : ℕ). take cabinet_size (drop (slot_place k) found)) first ∙ same_part found slots at cabinet_size t.long kept ∙ h.holds;
    }

-- ---- A select ----

-- what a select asks
record Selects (slots : List ℕ) (k : ℕ) : Type 0 where
  good : Fine slots
  low : k ≤ 1

selects : (slots : List ℕ) (k : ℕ) → selectable slots k ≡ true → Selects slots k
selects slots k e =
    let both = and_true (slots? slots) (k ≤? 1) e in
    record { good = fine slots both.0; low = leb-true k 1 both.1 }

may_select : (slots : List ℕ) (k : ℕ) → Selects slots k → selectable slots k ≡ true
may_select slots k s = rw (are_slots slots s.good, le-leb k 1 s.low) refl

-- where nothing was to change, nothing is torn
untorn : (l found : List ℕ) → Torn l l found → found ≡ l
untorn l found t = ext_get_or 0 found l t.long (λ (i : ℕ) (h : i < length found). same_byte t i refl)

-- one byte that is written is there or not
one_byte : (slots found : List ℕ) (k : ℕ) → 1 ≤ length slots → Torn slots (k ∷ drop 1 slots) found → (found ≡ slots) ⊎ (found ≡ (k ∷ drop 1 slots))
one_byte [] found k h t = absurd (omega arith)
one_byte (x ∷ xs) [] k h t = absurd (omega (arith, t.long))
one_byte (x ∷ xs) (y ∷ ys) k h t =
    let rest : ys ≡ xs = ext_get_or 0 ys xs (omega (arith, t.long)) (λ (i : ℕ) (n : i < length ys). same_byte t (suc i) refl) in
    ⊎_elim (λ p. inl (λ i. p i ∷ rest i)) (λ p. inr (λ i. p i ∷ rest i)) (t.each 0)

pub select_whole : SelectWhole
select_whole slots found k t = go (selectable slots k) refl
  where
    go : (b : Bool) → selectable slots k ≡ b → (found ≡ slots) ⊎ (found ≡ select_slots slots k)
    go false e = inl (untorn slots found (rw e at t))
    go true e = rw e (one_byte slots found k (omega (arith, (selects slots k e).good.long)) (rw e at t))

-- the slots after a select are slots
select_good : (slots : List ℕ) (k : ℕ) → Selects slots k → Selects (k ∷ drop 1 slots) k
select_good slots k s =
    let long : length (k ∷ drop 1 slots) ≡ slots_size = ap suc (length-drop 1 slots) ∙ omega (arith, s.good.long) in
    record { good = record { long = long; low = s.low }; low = s.low }

pub select_once : SelectOnce
select_once slots k = go (selectable slots k) refl
  where
    go : (b : Bool) → selectable slots k ≡ b
        → (drop 1 (select_slots slots k) ≡ drop 1 slots)
        × (select_slots (select_slots slots k) k ≡ select_slots slots k)
        × (select_number (select_slots slots k) k ≡ select_number slots k)
    go false e = rw e (refl, rw e refl, rw e refl)
    go true e =
        let again = may_select (k ∷ drop 1 slots) k (select_good slots k (selects slots k e)) in
        rw e (refl, rw again refl, rw again refl)

-- ---- An update ----

-- the number of a write that was done
told_slot : (slots new : List ℕ) (k : ℕ) → write_number slots new ≡ pos k → Writes slots new × (k ≡ other slots)
told_slot slots new k p = go (writable slots new) refl
  where
    go : (t : Bool) → writable slots new ≡ t → Writes slots new × (k ≡ other slots)
    go true e = let q = rw e at p in let same : k ≡ other slots = cc in (writes slots new e, same)
    go false e = let q = rw e at p in let z : ◌≡◌ {A = ℕ} 0 1 = cc in absurd (omega arith)

module _ (slots new : List ℕ) (w : Writes slots new) where
  -- after the write, the slot that was written can be selected
  can_select : Selects (write_slots slots new) (other slots)
  can_select =
      let first = selector_same slots new in
      record {
        good = record { long = length_same slots new ∙ w.good.long; low = omega (arith, w.good.low) };
        low = omega arith;
      }

  -- and then it holds the new record
  new_held : Held (other slots ∷ drop 1 (write_slots slots new)) new
  unfolding slot
  new_held =
      let at : ℕ = slot_place (other slots) in
      record {
        good = (select_good (write_slots slots new) (other slots) can_select).good;
        holds = ap (take cabinet_size) (behind_first (other slots) (288 * other slots) (write_slots slots new))
            ∙ rw (may_write slots new w) (ap (λ (n : ℕ). take n (drop at (splice at new slots))) (sym w.room) ∙ there at new slots (omega (arith, w.good.long)));
      }

  select_reads : Reads (select_slots (write_slots slots new) (other slots)) new
  select_reads = rw (may_select (write_slots slots new) (other slots) can_select) (reads (other slots ∷ drop 1 (write_slots slots new)) new new_held)

pub select_gives : SelectGives
select_gives slots new k e =
    let w = (told_slot slots new k e).0 in
    rw (told_slot slots new k e).1 (rw (may_select (write_slots slots new) (other slots) (can_select slots new w)) refl, select_reads slots new w)

pub fresh_reads : FreshReads
unfolding slot
fresh_reads slots h =
    let both : length (encode_cabinet fresh_cabinet ++ zeros cabinet_size) ≡ 576 = length-append (encode_cabinet fresh_cabinet) (zeros cabinet_size) ∙ ap (λ (n : ℕ). n + 288) fresh_long in
    let there_now : Held (0 ∷ (encode_cabinet fresh_cabinet ++ zeros cabinet_size)) (encode_cabinet fresh_cabinet) =
    record {
      good = record { long = ap suc both; low = omega arith };
      holds = take_at (encode_cabinet fresh_cabinet) (zeros cabinet_size) cabinet_size fresh_long;
    } in
    rw (eq-eqb (length slots) slots_size h) (refl, reads (0 ∷ (encode_cabinet fresh_cabinet ++ zeros cabinet_size)) (encode_cabinet fresh_cabinet) there_now)

pub no_slots : NoSlots
no_slots slots new buffer k e = rw e (refl, refl, refl, refl, refl, refl)

pub updates : Updates
updates slots new old r l =
    let w : Writes slots new = record { good = (held slots old r).good; room = l } in
    let done : List ℕ = write_slots slots new in
    let all : Torn slots done done = record { long = length_same slots new; each = λ (place : ℕ). inr refl } in
    record {
      written = other slots;
      told = rw (may_write slots new w) refl;
      while_written = λ (found : List ℕ) (t : Torn slots done found). write_keeps slots new found old r t;
      while_selected = λ (found : List ℕ) (t : Torn done (select_slots done (other slots)) found).
          ⊎_elim
          (λ p. inl (rw p (write_keeps slots new done old r all)))
          (λ p. inr (rw p (select_reads slots new w)))
          (select_whole done found (other slots) t);
      selected = select_reads slots new w;
    }
