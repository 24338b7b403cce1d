-- `compare_turns::Told::turn` meets its contract: what both parts have is compared, and what one has more is left over.
-- Assumes nothing.
use Rattle.std.proofs.Common.{length}
use Rattle.compare_turns.proofs.Laws.{turned_is, stands_on}
use Rattle.compare_turns.proofs.Told.turn.Goals as goal

pub returns-clause-standing_2 : goal.returns-clause-standing_2
returns-clause-standing_2 c =
    let a = c.args in
    let one = length a.first.now in
    let other = length a.second.now in
    let is = turned_is a.self a.first.now a.second.now one other c.min-both.ensures c.with_part-counted.ensures.value in
    stands_on a.self a.first.now a.second.now one other a.turns is c.requires.standing.0 c.requires.standing.1 c.requires.parts.0 c.requires.parts.1
