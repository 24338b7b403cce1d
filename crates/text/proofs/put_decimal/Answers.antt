-- `text::put_decimal` meets its contract: a number below 10 is its digit, and of any other `io::decimal` writes the fewest digits, which are the definition's.
use mathlib.Core.Path.{◌∙◌}
use native.Mathlib.Omega.{arith}
use Rattle.text.proofs.Writing.{rewrote, wrote_byte}
use Rattle.text.proofs.Decimal.{at_most_20, decimal_digits, decimal_digit}
use Rattle.text.proofs.put_decimal.Goals as goal

pub returns-then-n-lt10 : goal.returns-then-n-lt10
returns-then-n-lt10 c = let a = c.args in
    record { within = omega arith; wrote = rewrote (decimal_digit a.n c.if-n-lt10.true) (wrote_byte a.out.now a.at _ (omega (arith, c.requires))) }

pub returns : goal.returns
returns c = let few = at_most_20 c.decimal-k.result _ c.ranges.n.fits c.decimal-k.ensures.len in
    let wrote = c.put.ensures in
    record {
      within = omega (arith, few, c.decimal-k.ensures.in_bounds, wrote.next_is);
      wrote = rewrote (c.decimal-k.ensures.digits ∙ decimal_digits c.decimal-k.result _ few c.decimal-k.ensures.len) wrote;
    }
