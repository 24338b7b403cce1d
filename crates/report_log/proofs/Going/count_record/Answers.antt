-- `report_log::Going::count_record` meets its contract: the play's promise gives cabinet and reply, and the count is the one that these say.
use Rattle.rules.specs.Record.{whole_of}
use Rattle.report_log.proofs.Records.{has_cell}
use Rattle.report_log.proofs.Going.count_record.Goals as goal

pub count-requires : goal.count-requires
count-requires c = let a = c.args in
    has_cell (whole_of a.self.now.cabinet a.area.now) a.«record».now c.decode-entry.ensures c.play-outcome.ensures.reply_is
