-- `rules_demands::demand_3` meets its contract: it is the theorem of rules, and what follows from it and from what rules says of any hosts and any module.
-- Assumes nothing.
use Rattle.rules.proofs.histories.Demand3.{demand_3, of_what_remains, with_any_hosts, from_anywhere}
use Rattle.rules_demands.proofs.Histories.{written_out}
use Rattle.rules_demands.proofs.demand_3.Goals as goal

pub returns : goal.returns
returns c = record { demand3 = demand_3; demand3written_out = written_out demand_3 of_what_remains with_any_hosts from_anywhere }
