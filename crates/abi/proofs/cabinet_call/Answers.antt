-- `abi::cabinet_call` meets its contract. The cabinet's promise for the decoded record, kept in the bytes (proofs/Kept.antt).
-- Assumes nothing.
use borrow.Author.Rules.{rules}
use Rattle.bytes_numbers.proofs.Bytes.{Bytes}
use Rattle.abi_keep.proofs.Numbers.{passed_on}
use Rattle.cabinet_bytes.specs.Encoding.{decode_cabinet}
use Rattle.rules.{specs.declared.Cabinet.Cabinet, specs.Record.whole_of, specs.Cabinet.{Result, call_result}}
use Rattle.abi.proofs.Kept.{call_keepable, of_decoded, called}
use Rattle.abi.proofs.cabinet_call.Goals as goal

pub keep_named-requires : goal.keep_named-requires
keep_named-requires c =
    let a = c.args in
    let known : Bytes a.bytes.now = search rules in
    let by : Cabinet → Result = λ (x : Cabinet). call_result (whole_of x a.area.now) a.named a.revision a.function a.request.now a.answer.now in
    call_keepable a.bytes.now a.area.now known a.named a.revision a.function a.request.now a.answer.now (of_decoded by c.decode-c.ensures c.call-outcome.ensures)

pub returns : goal.returns
returns c =
    let a = c.args in
    let by : Cabinet → Result = λ (x : Cabinet). call_result (whole_of x a.area.now) a.named a.revision a.function a.request.now a.answer.now in
    called (by (decode_cabinet a.bytes.now)) a.bytes.now (of_decoded by c.decode-c.ensures c.call-outcome.ensures)
    (passed_on c.keep_named.type_inv c.keep_named.ensures.number_is, c.keep_named.ensures.bytes_are)
