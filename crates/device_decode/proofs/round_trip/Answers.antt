-- `device_decode::round_trip` meets its contract. What was encoded decodes to the same record, for each field fits its bytes (device_bytes/proofs/Back.antt).
-- Assumes nothing.
use mathlib.Core.Path.{◌∙◌, ap}
use Rattle.device_bytes.{specs.Encoding.decode_of, proofs.Back.back, proofs.Range.in_range}
use Rattle.device_decode.proofs.round_trip.Goals as goal

pub returns : goal.returns
returns c = c.decode.ensures ∙ ap decode_of c.encode-bytes.ensures ∙ back c.args.d (in_range c.args.d _ c.well_formed.0)
