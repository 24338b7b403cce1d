-- `compare_text::put_number` meets its contract: word, number and the line's end one after another.
-- Assumes nothing.
use Rattle.text.proofs.Writing.{and_then}
use native.Mathlib.Omega.{arith}
use Rattle.compare_text.proofs.put_number.Goals as goal

pub returns : goal.returns
returns c = let word = c.put-behind.ensures in
    let number = c.put_field.ensures in
    record { within = omega (arith, c.requires, word.next_is, number.within); wrote = and_then (omega (arith, c.requires)) word number.wrote }
