-- The line of a record is that of its entry and of what its play replied.
-- Assumes nothing.
use mathlib.Core.{Path.{◌≡◌, refl, sym, ◌∙◌, ap}, List.List}
use Prim.Native.Nat.{ℕ, ◌+◌, ◌≤◌}
use Rattle.rules.{specs.Record.Whole, specs.Log.{entry_of, request_in}, specs.Replay.{entry_line, record_line}}
use Rattle.rules.{specs.declared.Reply.Reply, specs.declared.Entry.Entry, specs.declared.Entry.TheVariants.{Call, Tick, Power, Health, Bad}}
use Rattle.replay_step.specs.Stepped.{entry_reply, record_reply}
use Rattle.text.{specs.Wrote.{Wrote, WroteWithin, line_room}, proofs.Writing.rewrote}
use Rattle.replay_play.specs.Replayed.{reply_line}

of_entry : (number : ℕ) (w : Whole) (entry : Entry) (request : List ℕ) → reply_line number entry (entry_reply w entry request) ≡ entry_line number w entry request
of_entry number w (Call named host revision index size) request = refl
of_entry number w Tick request = refl
of_entry number w (Power named) request = refl
of_entry number w (Health named new) request = refl
of_entry number w Bad request = refl

pub of_record : (number : ℕ) (w : Whole) (bytes : List ℕ) {entry : Entry} {reply : Reply} → entry ≡ entry_of bytes → reply ≡ record_reply w bytes
    → reply_line number entry reply ≡ record_line number w bytes
of_record number w bytes {entry} {reply} decoded played =
    ap (λ (e : Entry). reply_line number e reply) decoded
    ∙ ap (reply_line number (entry_of bytes)) played
    ∙ of_entry number w (entry_of bytes) (request_in bytes)

-- a text that was written is the line of the entry that is told
pub as_told : (number : ℕ) (reply : Reply) (entry : Entry) {read : Entry} {at next : ℕ} {old new : List ℕ} → read ≡ entry → next ≤ at + line_room
    → Wrote old at (reply_line number entry reply) new next → WroteWithin line_room old at (reply_line number read reply) new next
as_told number reply entry told room w = record { within = room; wrote = rewrote (ap (λ (e : Entry). reply_line number e reply) (sym told)) w }
