-- `image_make::make` meets its contract: its tests are those of the definition, in its order.
-- Assumes nothing.
use mathlib.Core.Path.{refl}
use Rattle.std.proofs.Common.{eq-eqb, ne_eqb}
use Rattle.image_make.proofs.Answers.{version_refused, payload_refused, output_refused, made}
use Rattle.image_make.proofs.make.Goals as goal

pub returns-then-version-eq0 : goal.returns-then-version-eq0
returns-then-version-eq0 c = record { value = version_refused _ _ _ (eq-eqb _ _ c.if-version-eq0.true); output_after = refl }

pub returns-then-payload : goal.returns-then-payload
returns-then-payload c = record { value = payload_refused _ _ _ (ne_eqb _ _ c.if-version-eq0.false) c.if-payload.true; output_after = refl }

pub returns-then-output-length : goal.returns-then-output-length
returns-then-output-length c = record { value = output_refused _ _ _ (ne_eqb _ _ c.if-version-eq0.false) c.if-payload.false c.parts-n.ensures c.if-output-length.true; output_after = refl }

pub returns : goal.returns
returns c = record {
  value = made _ _ _ (ne_eqb _ _ c.if-version-eq0.false) c.if-payload.false c.parts-n.ensures c.if-output-length.false;
  output_after = c.put_image.ensures;
}
