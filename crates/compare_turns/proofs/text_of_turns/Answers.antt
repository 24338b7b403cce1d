-- `compare_turns::text_of_turns` meets its contract: it is the theorem.
-- Assumes nothing.
use Rattle.compare_turns.proofs.Turns.{text_of_turns}
use Rattle.compare_turns.proofs.text_of_turns.Goals as goal

pub returns : goal.returns
returns c = text_of_turns
