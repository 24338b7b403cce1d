-- Two slots for the cabinet's record and a selector, 577 bytes in memory that outlives power: byte 0 is the selector, 0 or 1; slot 0 is bytes 1 to 288, slot 1
-- bytes 289 to 576. The record is that of the selected slot. What each function gives, and the buffer that it writes, refusals too.
-- Assumes nothing.
use Rattle.std.specs.Prelude.{ℕ, ◌+◌, ◌-◌, ◌*◌}
use mathlib.Core.{List.{List, ◌∷◌, ◌++◌}, Bool.{Bool, ◌&&◌}}
use Rattle.std.specs.Prelude.{ℤ, pos, neg_ℤ, length, get_or, take, drop}
use Rattle.std.specs.Prelude.{if◌then◌else◌}
use Rattle.rules.specs.Tests.{◌≤?◌, ◌=?◌}
use Rattle.rules.specs.Bytes.{splice, zeros}
use Rattle.rules.specs.Record.{fresh_cabinet}
use Rattle.cabinet_bytes.specs.Encoding.{cabinet_size, encode_cabinet}

-- the bytes of both slots and of the selector
abbrev pub slots_size : ℕ
slots_size = 1 + cabinet_size * 2

-- where a slot begins
abbrev pub slot_place : ℕ → ℕ
slot_place k = 1 + cabinet_size * k

-- the bytes of a slot
unfoldable pub slot : ℕ → (slots : List ℕ) → List ℕ
slot k slots = take cabinet_size (drop (slot_place k) slots)

-- the selector; the slot that is not selected, which is written next
abbrev pub selector : List ℕ → ℕ
selector slots = get_or slots 0 0

abbrev pub other : List ℕ → ℕ
other slots = 1 - selector slots

-- these bytes are slots: 577 of them, with a selector of 0 or 1
unfoldable pub slots? : List ℕ → Bool
slots? slots = length slots =? slots_size && selector slots ≤? 1

-- the number given where nothing was done
abbrev pub refused : ℤ
refused = neg_ℤ (pos 1)

-- slots_fresh: slot 0 is selected and holds a fresh cabinet's record, slot 1 is zeros; whatever the bytes were
abbrev pub fresh_number : (slots : List ℕ) → ℤ
fresh_number slots = if length slots =? slots_size then pos 0 else refused

abbrev pub fresh_slots : (slots : List ℕ) → List ℕ
fresh_slots slots = if length slots =? slots_size then 0 ∷ (encode_cabinet fresh_cabinet ++ zeros cabinet_size) else slots

-- slots_write: the record's bytes, whatever they are, go into the slot that is not selected; its number is given
abbrev pub writable : (slots bytes : List ℕ) → Bool
writable slots bytes = slots? slots && length bytes =? cabinet_size

abbrev pub write_number : (slots bytes : List ℕ) → ℤ
write_number slots bytes = if writable slots bytes then pos (other slots) else refused

abbrev pub write_slots : (slots bytes : List ℕ) → List ℕ
write_slots slots bytes = if writable slots bytes then splice (slot_place (other slots)) bytes slots else slots

-- slots_select: the selector's byte, and no other
abbrev pub selectable : (slots : List ℕ) (k : ℕ) → Bool
selectable slots k = slots? slots && k ≤? 1

abbrev pub select_number : (slots : List ℕ) (k : ℕ) → ℤ
select_number slots k = if selectable slots k then pos 0 else refused

abbrev pub select_slots : (slots : List ℕ) (k : ℕ) → List ℕ
select_slots slots k = if selectable slots k then k ∷ drop 1 slots else slots

-- slots_read: the bytes of the selected slot, over a buffer of just as many
abbrev pub readable : (slots buffer : List ℕ) → Bool
readable slots buffer = slots? slots && length buffer =? cabinet_size

abbrev pub read_number : (slots buffer : List ℕ) → ℤ
read_number slots buffer = if readable slots buffer then pos 0 else refused

abbrev pub read_record : (slots buffer : List ℕ) → List ℕ
read_record slots buffer = if readable slots buffer then slot (selector slots) slots else buffer
