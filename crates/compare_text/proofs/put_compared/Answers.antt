-- `compare_text::put_compared` meets its contract: the first line, the places' lines and the last, one after another.
-- Assumes nothing.
use Rattle.compare_text.proofs.Laws.{whole}
use Rattle.compare_text.proofs.put_compared.Goals as goal

pub returns : goal.returns
returns c =
    let told = c.args.compared in
    whole told.leading told.differing told.left c.args.list.now c.requires.0 c.put_number-first.ensures c.put_lines-lines.ensures c.put_number.ensures
