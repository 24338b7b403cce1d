-- `images::main` meets its contract. Each job uses up an argument at least.
-- Assumes nothing.
use Rattle.std.proofs.Common.{◌-◌}
use Rattle.images.proofs.main.Given as goal

abbrev pub decreases-loop-first : goal.decreases-loop-first
decreases-loop-first l = l.count - l.first
