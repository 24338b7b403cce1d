-- `call_checks::fits` meets its contract. The row says which of the two tests counts.
-- Assumes nothing.
use Rattle.rules.specs.Table.{fits?}
use Rattle.call_checks.proofs.fits.Goals as goal

pub returns-in-Exactly : goal.returns-in-Exactly
unfolding fits?
returns-in-Exactly c = simp c.in-Exactly.is

pub returns-in-AtLeast : goal.returns-in-AtLeast
unfolding fits?
returns-in-AtLeast c = simp c.in-AtLeast.is
