-- Document 02, T-05, written out, byte by byte of a call; and by examples: every reserved bit by itself.
-- Assumes nothing.
use Rattle.std.specs.Prelude.{ℕ, ◌+◌, ◌*◌, ◌^◌, ◌≤◌, ◌<◌}
use mathlib.Core.{Path.◌≡◌, Bool.{true, false, not}, List.{List, [], ◌∷◌, ◌++◌, map}}
use Rattle.std.specs.Prelude.{length, drop, replicate}
use Rattle.rules.specs.Tests.{◌<?◌}
use Rattle.rules.specs.Bytes.{le, of_le, on}
use Rattle.rules.specs.Record.{fresh, possible_cabinet, ◌is◌, live, Whole, device_of}
use Rattle.rules.specs.Refusals.{◌gives◌, verdict}
use Rattle.rules.specs.Thresholds.{set_threshold_of, threshold_checks}
use Rattle.rules.specs.Transfer.{finish_of, transfer_checks, start_change}
use Rattle.rules.specs.Cabinet.{Result, reply, call, step}
use Rattle.rules.specs.declared.{Refusal.TheVariants.Status, Phase.TheVariants.Receiving}
use Rattle.rules.specs.Refusals.{Verdict}
use Rattle.std.specs.Prelude.{Ok, Err}

-- status 3, its four bytes at the front of the buffer, and nothing changed
abbrev pub refused3 : Whole → (buffer : List ℕ) → Result
refused3 w buffer = record { reply = reply (Err (Status 3 0)) 4; after = w; answer = 3 ∷ 0 ∷ 0 ∷ 0 ∷ drop 4 buffer }

-- of every cabinet that gives no R number, each of its modules, and every host
pub record ReservedWrittenOut (w : Whole) (host named : ℕ) (buffer : List ℕ) : Type 0 where
  -- a Finish: bytes 1 to 3, whatever the flag and the context are
  pub finish : (flag first second third a b c d : ℕ) → 0 < first + second + third
      → step w (call host named 2 15 (flag ∷ first ∷ second ∷ third ∷ a ∷ b ∷ c ∷ d ∷ []) buffer) ≡ refused3 w buffer
  -- a Set Threshold: bits 3 to 15 of bytes 0 and 1, whatever the spare and the words are
  pub set : (low high spare a b c d : ℕ) → 7 < low + 256 * high
      → step w (call host named 2 17 (low ∷ high ∷ spare ∷ a ∷ b ∷ c ∷ d ∷ []) buffer) ≡ refused3 w buffer
  -- with zeros there both are judged as before: flag, context and phase; the spare
  pub finish_zeros : (flag a b c d : ℕ) → (step w (call host named 2 15 (flag ∷ 0 ∷ 0 ∷ 0 ∷ a ∷ b ∷ c ∷ d ∷ []) buffer)).reply.verdict
      ≡ verdict
      ((1 <? flag gives Status 3 0)
      ∷ (not (live (device_of named w.cabinet).transfer (of_le (a ∷ b ∷ c ∷ d ∷ []))) gives Status 7 1)
      ∷ (not ((device_of named w.cabinet).transfer.phase is Receiving) gives Status 7 2)
      ∷ [])
  pub set_zeros : (low spare a b c d : ℕ) → low ≤ 7
      → (step w (call host named 2 17 (low ∷ 0 ∷ spare ∷ a ∷ b ∷ c ∷ d ∷ []) buffer)).reply.verdict ≡ verdict ((100 <? spare gives Status 3 0) ∷ [])
  -- one that is accepted stores its enable bits as they came, its spare and its words
  pub stored : (low high spare a b c d : ℕ) → (step w (call host named 2 17 (low ∷ high ∷ spare ∷ a ∷ b ∷ c ∷ d ∷ []) buffer)).reply.verdict ≡ Ok tt
      → (device_of named (step w (call host named 2 17 (low ∷ high ∷ spare ∷ a ∷ b ∷ c ∷ d ∷ []) buffer)).after.cabinet).thresholds
      ≡ record { enable = low + 256 * high; spare = spare; media = a + 256 * b; controller = c + 256 * d }

-- and any of bits 3 to 15 makes the two bytes more than 7
pub record ReservedMeansZero : Type 0 where
  pub any_bit : (k low high : ℕ) → 3 ≤ k → on k (low + 256 * high) ≡ true → 7 < low + 256 * high
  pub of_calls : (w : Whole) (host named : ℕ) (buffer : List ℕ) → named ≤ 1 → possible_cabinet w.cabinet ≡ true → length w.area ≡ 16384 → 132 ≤ length buffer
      → ReservedWrittenOut w host named buffer

-- each bit of three bytes, and of two
abbrev pub bits : List ℕ
bits = 0 ∷ 1 ∷ 2 ∷ 3 ∷ 4 ∷ 5 ∷ 6 ∷ 7 ∷ 8 ∷ 9 ∷ 10 ∷ 11 ∷ 12 ∷ 13 ∷ 14 ∷ 15 ∷ []

abbrev pub more_bits : List ℕ
more_bits = 16 ∷ 17 ∷ 18 ∷ 19 ∷ 20 ∷ 21 ∷ 22 ∷ 23 ∷ []

-- a Finish of context 1 with these reserved bytes, after the first Start
abbrev pub judged_finish : (flag reserved : ℕ) → Verdict
judged_finish flag reserved = verdict (transfer_checks (start_change fresh.transfer 0) 1 false (finish_of (flag ∷ le 3 reserved ++ (1 ∷ 0 ∷ 0 ∷ 0 ∷ []))))

abbrev pub judged_set : (enable spare : ℕ) → Verdict
judged_set enable spare = verdict (threshold_checks (set_threshold_of (le 2 enable ++ (spare ∷ 0 ∷ 0 ∷ 0 ∷ 0 ∷ []))))

pub record ReservedHeld : Type 0 where
  pub finish_bits : map (λ k. judged_finish 0 (2 ^ k)) (bits ++ more_bits) ≡ replicate 24 (Err (Status 3 0))
  pub finish_flags : map (λ flag. judged_finish flag 0) (0 ∷ 1 ∷ 2 ∷ []) ≡ (Ok tt) ∷ (Ok tt) ∷ Err (Status 3 0) ∷ []
  pub set_bits : map (λ k. judged_set (2 ^ k) 100) bits ≡ (Ok tt) ∷ (Ok tt) ∷ (Ok tt) ∷ replicate 13 (Err (Status 3 0))
  pub set_spares : map (judged_set 7) (100 ∷ 101 ∷ []) ≡ (Ok tt) ∷ Err (Status 3 0) ∷ []
