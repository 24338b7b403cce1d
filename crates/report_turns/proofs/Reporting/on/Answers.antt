-- `report_turns::Reporting::on` meets its contract: the report is kept and counted on, and both modules are fresh.
-- Assumes nothing.
use Rattle.rules.{specs.Bytes.zeros, specs.Numbers.area_size, specs.Record.whole_of}
use Rattle.report_tally.specs.Tally.{page_report, tally_of}
use Rattle.report_turns.proofs.Reporting.on.Goals as goal

pub returns : goal.returns
returns c =
    λ i. record {
      kept = page_report c.args.report;
      tally = tally_of (c.beginning.ensures i).counting;
      whole_now = whole_of (c.beginning.ensures i).cabinet (zeros area_size);
    }
