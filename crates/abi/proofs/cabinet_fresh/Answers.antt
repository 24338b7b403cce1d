-- `abi::cabinet_fresh` meets its contract. A record of another length is refused; over 288 bytes the fresh record is written.
-- Assumes nothing.
use mathlib.Core.Path.{refl, ◌∙◌, ap}
use Rattle.cabinet_bytes.specs.Encoding.{encode_cabinet}
use Rattle.abi.proofs.Made.{made, not_made}
use Rattle.abi.proofs.cabinet_fresh.Goals as goal

pub returns-then-bytes-ne-CABINET_SIZE : goal.returns-then-bytes-ne-CABINET_SIZE
returns-then-bytes-ne-CABINET_SIZE c = not_made c.args.bytes.now c.if-bytes-ne-CABINET_SIZE.true

pub returns : goal.returns
returns c = made c.args.bytes.now c.if-bytes-ne-CABINET_SIZE.false refl (c.put.ensures ∙ ap encode_cabinet c.fresh.ensures)
