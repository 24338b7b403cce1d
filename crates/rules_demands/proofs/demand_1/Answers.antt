-- `rules_demands::demand_1` meets its contract: it is the theorem of rules, and what follows from it alone.
-- Assumes nothing.
use Rattle.rules.proofs.page.Demand1.{demand_1}
use Rattle.rules_demands.proofs.Calls.{written_out}
use Rattle.rules_demands.proofs.demand_1.Goals as goal

pub returns : goal.returns
returns c = record { demand1 = demand_1; demand1written_out = written_out demand_1 }
