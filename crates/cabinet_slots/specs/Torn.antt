-- What the slots are for: power may go at any moment of an update, and reading then gives the record before it or the record after it, never a mixture.
-- An update is a slots_write, then a slots_select of the slot that it gave; between the two the caller waits until the slot is in memory.
-- Assumes nothing.
use mathlib.Core.{Path.◌≡◌, Logic.◌⊎◌, Bool.false, List.List}
use Rattle.std.specs.Prelude.{ℕ, pos, length, get_or, drop}
use Rattle.rules.specs.Record.{fresh_cabinet}
use Rattle.cabinet_bytes.specs.Encoding.{cabinet_size, encode_cabinet}
use Rattle.cabinet_slots.specs.Slots.{slots_size, slot, selector, slots?, refused, fresh_number, fresh_slots, write_number, write_slots, select_number, select_slots, read_number, read_record}

-- What power left of a write: whatever part of it reached memory, in whatever order, each byte is as it was before the write or as it is after it.
pub record Torn (before after found : List ℕ) : Type 0 where
  pub long : length found ≡ length before
  pub each : (place : ℕ) → (get_or found place 0 ≡ get_or before place 0) ⊎ (get_or found place 0 ≡ get_or after place 0)

-- slots_read gives this record, over any buffer that has the room
abbrev pub Reads : (slots bytes : List ℕ) → Type 0
Reads slots bytes =
    (buffer : List ℕ) → length buffer ≡ cabinet_size → (read_number slots buffer ≡ pos 0) × (read_record slots buffer ≡ bytes)

-- Writing changes neither the selector nor the selected slot.
abbrev pub WriteLeaves : Type 0
WriteLeaves =
    (slots new : List ℕ)
    → (selector (write_slots slots new) ≡ selector slots)
    × (slot (selector slots) (write_slots slots new) ≡ slot (selector slots) slots)

-- So it changes nothing that is read, whatever part of it reached memory.
abbrev pub WriteKeeps : Type 0
WriteKeeps = (slots new found old : List ℕ) → Reads slots old → Torn slots (write_slots slots new) found → Reads found old

-- The selector is one byte, so that power leaves all of a select or nothing of it.
abbrev pub SelectWhole : Type 0
SelectWhole =
    (slots found : List ℕ) (k : ℕ) → Torn slots (select_slots slots k) found → (found ≡ slots) ⊎ (found ≡ select_slots slots k)

-- Selecting changes one byte at most, and the same again changes nothing.
abbrev pub SelectOnce : Type 0
SelectOnce =
    (slots : List ℕ) (k : ℕ)
    → (drop 1 (select_slots slots k) ≡ drop 1 slots)
    × (select_slots (select_slots slots k) k ≡ select_slots slots k)
    × (select_number (select_slots slots k) k ≡ select_number slots k)

-- The slot that was written, once it is selected, is what is read.
abbrev pub SelectGives : Type 0
SelectGives =
    (slots new : List ℕ) (k : ℕ) → write_number slots new ≡ pos k
    → (select_number (write_slots slots new) k ≡ pos 0) × Reads (select_slots (write_slots slots new) k) new

-- A new cabinet's record is a fresh one.
abbrev pub FreshReads : Type 0
FreshReads =
    (slots : List ℕ) → length slots ≡ slots_size → (fresh_number slots ≡ pos 0) × Reads (fresh_slots slots) (encode_cabinet fresh_cabinet)

-- What are no slots is refused, and nothing is written.
abbrev pub NoSlots : Type 0
NoSlots =
    (slots new buffer : List ℕ) (k : ℕ) → slots? slots ≡ false
    → (write_number slots new ≡ refused)
    × (write_slots slots new ≡ slots)
    × (select_number slots k ≡ refused)
    × (select_slots slots k ≡ slots)
    × (read_number slots buffer ≡ refused)
    × (read_record slots buffer ≡ buffer)

-- A whole update, wherever power goes: before the slot is selected reading gives the old record, then the old one or the new one, then the new one.
pub record Updated (slots new old : List ℕ) : Type 0 where
  pub written : ℕ
  pub told : write_number slots new ≡ pos written
  pub while_written : (found : List ℕ) → Torn slots (write_slots slots new) found → Reads found old
  pub while_selected : (found : List ℕ) → Torn (write_slots slots new) (select_slots (write_slots slots new) written) found
      → Reads found old ⊎ Reads found new
  pub selected : Reads (select_slots (write_slots slots new) written) new

abbrev pub Updates : Type 0
Updates = (slots new old : List ℕ) → Reads slots old → length new ≡ cabinet_size → Updated slots new old
