-- `cabinet_decode::round_trip` meets its contract. What was encoded decodes to the same record, for each field fits its bytes (cabinet_bytes/proofs/Back.antt).
-- Assumes nothing.
use mathlib.Core.Path.{◌∙◌, ap}
use Rattle.cabinet_bytes.{specs.Encoding.decode_cabinet, proofs.Back.back, proofs.Range.in_range}
use Rattle.cabinet_decode.proofs.round_trip.Goals as goal

pub returns : goal.returns
returns c = c.decode.ensures ∙ ap decode_cabinet c.put.ensures ∙ back c.args.c (in_range c.args.c _ c.well_formed.0)
