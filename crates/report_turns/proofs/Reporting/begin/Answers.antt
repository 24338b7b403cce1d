-- `report_turns::Reporting::begin` meets its contract: what is kept is counted on, and both modules are fresh.
-- Assumes nothing.
use Rattle.rules.{specs.Bytes.zeros, specs.Numbers.area_size, specs.Record.whole_of}
use Rattle.report_tally.specs.Tally.{page_report, tally_of}
use Rattle.report_turns.proofs.Reporting.begin.Goals as goal

pub returns : goal.returns
returns c =
    λ i. record {
      kept = page_report c.args.self.now.kept;
      tally = tally_of (c.beginning-self.ensures i).counting;
      whole_now = whole_of (c.beginning-self.ensures i).cabinet (zeros area_size);
    }
