-- `rules_demands::beside_the_demands` meets its contract: it follows from four theorems of rules.
-- Assumes nothing.
use Rattle.rules.{proofs.page.Area.area_stays, proofs.page.LastReading.last_kept, proofs.page.Frozen.frozen_first, proofs.histories.Stage.taken_over_law}
use Rattle.rules_demands.proofs.Beside.{written_out}
use Rattle.rules_demands.proofs.beside_the_demands.Goals as goal

pub returns : goal.returns
returns c = written_out area_stays last_kept frozen_first taken_over_law
