-- `abi::cabinet_reading` meets its contract. The cabinet's promise for the decoded record, kept in the bytes (proofs/Kept.antt).
-- Assumes nothing.
use mathlib.Core.List.{[], ◌∷◌}
use borrow.Author.Rules.{rules}
use Rattle.bytes_numbers.proofs.Bytes.{Bytes}
use Rattle.abi_keep.proofs.Numbers.{passed_on}
use Rattle.cabinet_bytes.specs.Encoding.{decode_cabinet}
use Rattle.rules.{specs.declared.Cabinet.Cabinet, specs.Record.whole_of, specs.Cabinet.{Result, reading_result}, specs.Health.new_reading, specs.Refusals.R4Check}
use Rattle.abi.proofs.Kept.{event_keepable, of_decoded, occurred}
use Rattle.abi.proofs.cabinet_reading.Goals as goal

pub keep_named-requires : goal.keep_named-requires
unfolding reading_result
keep_named-requires c =
    let a = c.args in
    let known : Bytes a.bytes.now = search rules in
    let by : Cabinet → Result = λ (x : Cabinet). reading_result (whole_of x a.area.now) a.named (new_reading a.spare a.media a.controller) in
    event_keepable a.bytes.now a.area.now known a.named _ (R4Check (new_reading a.spare a.media a.controller) ∷ []) (of_decoded by c.decode-c.ensures c.reading-outcome.ensures)

pub returns : goal.returns
returns c =
    let a = c.args in
    let by : Cabinet → Result = λ (x : Cabinet). reading_result (whole_of x a.area.now) a.named (new_reading a.spare a.media a.controller) in
    occurred (by (decode_cabinet a.bytes.now)) a.bytes.now (of_decoded by c.decode-c.ensures c.reading-outcome.ensures)
    (passed_on c.keep_named.type_inv c.keep_named.ensures.number_is, c.keep_named.ensures.bytes_are)
