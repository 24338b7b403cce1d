-- `abi::cabinet_tick` meets its contract. The cabinet's promise for the decoded record, kept in the bytes (proofs/Kept.antt).
-- Assumes nothing.
use Rattle.abi_keep.proofs.Numbers.{passed_on}
use Rattle.cabinet_bytes.specs.Encoding.{decode_cabinet}
use Rattle.rules.{specs.declared.Cabinet.Cabinet, specs.Record.whole_of, specs.Cabinet.{Result, tick_result}}
use Rattle.abi.proofs.Kept.{tick_keepable, of_decoded, occurred}
use Rattle.abi.proofs.cabinet_tick.Goals as goal

pub keep-requires : goal.keep-requires
unfolding tick_result
keep-requires c =
    let a = c.args in
    let by : Cabinet → Result = λ (x : Cabinet). tick_result (whole_of x a.area.now) in
    tick_keepable a.bytes.now a.area.now (of_decoded by c.decode-c.ensures c.tick-outcome.ensures)

pub returns : goal.returns
returns c =
    let a = c.args in
    let by : Cabinet → Result = λ (x : Cabinet). tick_result (whole_of x a.area.now) in
    occurred (by (decode_cabinet a.bytes.now)) a.bytes.now (of_decoded by c.decode-c.ensures c.tick-outcome.ensures)
    (passed_on c.keep.type_inv c.keep.ensures.number_is, c.keep.ensures.bytes_are)
