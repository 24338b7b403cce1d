-- `text::put_field` meets its contract: the text is written where the number ends.
use native.Mathlib.Omega.{arith}
use Rattle.text.proofs.Writing.{and_then}
use Rattle.text.proofs.put_field.Goals as goal

pub returns : goal.returns
returns c = let number = c.put_decimal-behind.ensures in
    let wrote = c.put.ensures in
    record { within = omega (arith, number.within, wrote.next_is); wrote = and_then (omega (arith, c.requires)) number.wrote wrote }
