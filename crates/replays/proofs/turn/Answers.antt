-- `replays::turn` meets its contract: each arm is a clause of `turn_text` and `turned`.
-- Assumes nothing.
use Rattle.replays.proofs.turn.Goals as goal

pub returns-in-Beginning : goal.returns-in-Beginning
returns-in-Beginning c = simp c.in-Beginning.is c.begin.ensures
