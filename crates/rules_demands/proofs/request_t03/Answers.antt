-- `rules_demands::request_t03` meets its contract: its first two promises are theorems of rules, then the same written out, and the examples.
-- Assumes nothing.
use Rattle.rules.{proofs.page.Faults.request_T03, proofs.page.Adopting.adopting}
use Rattle.rules_demands.proofs.Faults.{written_out, adopting_written, faults_held}
use Rattle.rules_demands.proofs.request_t03.Goals as goal

pub returns : goal.returns
returns c = record { request_t03 = request_T03; adopting = adopting; faults_written_out = written_out; adopting_written_out = adopting_written; faults_held = faults_held }
