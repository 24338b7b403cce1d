-- `compare_text::text_of_report` meets its contract: it is the theorem.
-- Assumes nothing.
use Rattle.compare_text.proofs.Told.{text_of_report}
use Rattle.compare_text.proofs.text_of_report.Goals as goal

pub returns : goal.returns
returns c = text_of_report
