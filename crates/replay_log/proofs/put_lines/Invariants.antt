-- `replay_log::put_lines` meets its contract. The loop's invariant: the first j records were played, and their lines were written, at most 96 bytes each.
use mathlib.Core.Path.{◌≡◌}
use lib.ListN.{length}
use Rattle.rules.specs.Record.{whole_of}
use Rattle.replay_log.proofs.Turns.{FirstPlayed}
use Rattle.replay_log.proofs.put_lines.Given as goal

abbrev pub invariant-loop-j : goal.invariant-loop-j
invariant-loop-j l = (length l.out ≡ length l.initial.out) × (length l.answer ≡ length l.initial.answer)
    × FirstPlayed l.number (whole_of l.initial.played.cabinet l.initial.area) l.part l.j l.initial.out l.out l.area l.played
