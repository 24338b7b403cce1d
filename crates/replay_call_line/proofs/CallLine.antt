-- A call's line, by whether the function is 0.
-- Assumes nothing.
use mathlib.Core.{Path.{◌≡◌, sym, ◌∙◌, ap}, Bool.{Bool, true, false}, List.{List, ◌++◌}}
use Prim.Native.Nat.{ℕ}
use Rattle.std.specs.Prelude.{if◌then◌else◌}
use Rattle.rules.{specs.Tests.{◌=?◌}, specs.Text.field, specs.Replay.{printed_status, printed_ext, call_line}, specs.declared.Reply.Reply}

module _ (number index : ℕ) (reply : Reply) where
  abbrev mask_line : List ℕ
  mask_line = field number " call - - " ++ field reply.length "\n"

  abbrev status_line : (status ext : ℕ) → List ℕ
  status_line status ext = field number " call " ++ field status " " ++ field ext " " ++ field reply.length "\n"

  chosen : {mask : Bool} → (index =? 0) ≡ mask
      → (if mask then mask_line else (status_line (printed_status reply.verdict) (printed_ext reply.verdict))) ≡ call_line number index reply
  chosen e =
      ap (λ (mask : Bool). if mask then mask_line else (status_line (printed_status reply.verdict) (printed_ext reply.verdict))) (sym e)

  pub line_of_0 : (index =? 0) ≡ true → mask_line ≡ call_line number index reply
  line_of_0 e = chosen e

  pub line_of_other : {status ext : ℕ} → (index =? 0) ≡ false → status ≡ printed_status reply.verdict → ext ≡ printed_ext reply.verdict
      → status_line status ext ≡ call_line number index reply
  line_of_other {status} {ext} e s x =
      ap (λ (n : ℕ). status_line n ext) s ∙ ap (status_line (printed_status reply.verdict)) x ∙ chosen e
