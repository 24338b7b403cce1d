-- What one record of a log comes to when it is played: the cabinet after it, and the reply.
-- Assumes nothing.
use mathlib.Core.{Path.◌≡◌, List.List}
use Rattle.std.specs.Prelude.{ℕ}
use Rattle.rules.specs.Record.{Whole, whole_of}
use Rattle.rules.specs.Cabinet.{tick_result, power_result, reading_result}
use Rattle.rules.specs.Log.{entry_of, request_in}
use Rattle.rules.specs.Replay.{replay_call, record_played}
use Rattle.rules.specs.declared.{Reply.Reply, Entry.Entry, Entry.TheVariants.{Call, Tick, Power, Health, Bad}}
use Rattle.cabinet.specs.declared.Outcome.{Outcome}
use Rattle.rules.specs.Refusals.{Verdict}
use Rattle.std.specs.Prelude.{Ok}

-- the reply to what a log record plays; a bad record plays nothing, so that nothing is refused and no byte answered
abbrev pub entry_reply : Whole → Entry → (request : List ℕ) → Reply
entry_reply w (Call named host revision index size) request = (replay_call w named revision index request).reply
entry_reply w Tick request = (tick_result w).reply
entry_reply w (Power named) request = (power_result w named).reply
entry_reply w (Health named new) request = (reading_result w named new).reply
entry_reply w Bad request = record { verdict = Ok tt; length = 0 }

abbrev pub record_reply : Whole → (bytes : List ℕ) → Reply
record_reply w bytes = entry_reply w (entry_of bytes) (request_in bytes)

abbrev pub record_verdict : Whole → (bytes : List ℕ) → Verdict
record_verdict w bytes = (record_reply w bytes).verdict

-- the record of these bytes was played: the record that is answered and the area as it was left are the cabinet after it
pub record Stepped (w : Whole) (bytes area : List ℕ) (outcome : Outcome) : Type 0 where
  pub whole_is : whole_of outcome.cabinet area ≡ record_played w bytes
  pub reply_is : outcome.reply ≡ record_reply w bytes
