-- What stands at a place of a log, case by case: before the tail, at the tail, and past it.
-- Assumes nothing.
use mathlib.Core.{Path.{◌≡◌, refl, ap, sym, ◌∙◌}, Bool.{Bool, true, false, ◌&&◌}, List.List}
use Prim.Native.Nat.{ℕ, ◌≤◌, ◌<◌, ◌+◌, ◌-◌, ◌*◌}
use native.Mathlib.{Nat.add-sub_cancel_left, Omega.arith}
use borrow.Author.Tests.{lt-ltb, le-ltb, ltb-true}
use lib.ListN.{take, drop}
use Rattle.std.specs.Prelude.{if◌then◌else◌}
use Rattle.rules.{specs.Tests.{◌<?◌, ◌=?◌}, specs.Log.{record_size, entry_of, records_in, record_at, short_tail}, specs.declared.Entry.Entry}
use Rattle.log_reader.specs.{declared.Found.Found, declared.Found.TheVariants.{Record, Short, End}, Reader.{stands, stood_at}}

abbrev record? : Found → ℕ
record? (Record e) = 1
record? Short = 0
record? End = 0

module _ (log : List ℕ) (place : ℕ) where
  pub at_record : place < records_in log → stood_at log place ≡ stands (Record (entry_of (record_at log place))) (place + 1)
  unfolding stood_at
  at_record h = simp (lt-ltb place (records_in log) h)

  pub at_tail : records_in log ≤ place → (place =? records_in log && short_tail log) ≡ true → stood_at log place ≡ stands Short (place + 1)
  unfolding stood_at
  at_tail h t = simp (le-ltb place (records_in log) h, t)

  pub at_end : records_in log ≤ place → (place =? records_in log && short_tail log) ≡ false → stood_at log place ≡ stands End place
  unfolding stood_at
  at_end h t = simp (le-ltb place (records_in log) h, t)

  -- the part of the log that is decoded is its record
  pub decoded : (e : Entry) → place < records_in log → e ≡ entry_of (take (place * record_size + record_size - place * record_size) (drop (place * record_size) log))
      → stands (Record e) (place + 1) ≡ stood_at log place
  decoded e h q =
      ap (λ (x : Entry). stands (Record x) (place + 1))
      (q ∙ ap (λ (k : ℕ). entry_of (take k (drop (place * record_size) log))) (add-sub_cancel_left (place * record_size) record_size))
      ∙ sym (at_record h)

  -- where a record is found there is one, and what it says is the log's
  pub found_record : {e : Entry} → (stood_at log place).found ≡ Record e → (place < records_in log) × (e ≡ entry_of (record_at log place))
  unfolding stood_at
  found_record {e} = go (place <? records_in log) refl (place =? records_in log && short_tail log)
    where
      go : (here : Bool) → (place <? records_in log) ≡ here → (tail : Bool)
          → (if here then stands (Record (entry_of (record_at log place))) (place + 1) else if tail then stands Short (place + 1) else stands End place).found ≡ Record e
          → (place < records_in log) × (e ≡ entry_of (record_at log place))
      go true h tail q = (ltb-true place (records_in log) h, cc)
      go false h true q = absurd (omega (arith, ap record? q))
      go false h false q = absurd (omega (arith, ap record? q))
