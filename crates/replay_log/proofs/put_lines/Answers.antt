-- `replay_log::put_lines` meets its contract: one more record was played, and its line was written.
use mathlib.Core.Path.{refl}
use Prim.Native.Nat.{◌<◌}
use native.Mathlib.Omega.{arith}
use borrow.Author.Rules.{rules}
use Rattle.rules.specs.Log.{records_in}
use Rattle.rules.specs.Record.{whole_of}
use Rattle.replay_log.proofs.Turns.{none_yet, one_more}
use Rattle.replay_log.proofs.put_lines.Goals as goal

pub loop-j-init : goal.loop-j-init
loop-j-init c = let a = c.args in
    (refl, refl, none_yet a.number (whole_of a.c a.area.now) a.part.now a.out.now a.area.now _ refl refl)

pub loop-j-preserved : goal.loop-j-preserved
loop-j-preserved c = let a = c.args in
    let inv = c.loop-j.invariant in
    let inside : c.loop-j.j < records_in a.part.now = omega arith in
    (search rules, search rules, one_more a.number (whole_of a.c a.area.now) a.part.now c.loop-j.j inside inv.2 c.play_at-played.ensures)
