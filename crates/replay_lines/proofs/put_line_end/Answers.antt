-- `replay_lines::put_line_end` meets its contract: in Failed the four parts of a fault are written one after the other.
use mathlib.Core.Path.{◌≡◌}
use native.Mathlib.Omega.{arith}
use borrow.Author.Rules.{rules}
use Rattle.rules.specs.declared.Phase.TheVariants.{Failed}
use Rattle.text.proofs.Writing.{and_then}
use Rattle.replay_lines.proofs.Ending.{failed}
use Rattle.replay_lines.proofs.put_line_end.Goals as goal

pub returns : goal.returns
returns c = let p1 = c.put-named.ensures in
    let p2 = c.put_reason-spaced.ensures in
    let p3 = c.put-counted.ensures in
    let p4 = c.put_field.ensures in
    let told : c.args.t.phase ≡ Failed = search rules in
    let row = and_then (omega (arith, c.requires)) (and_then (omega (arith, c.requires)) (and_then (omega (arith, c.requires)) p1 p2.wrote) p3) p4.wrote in
    record {
      within = omega (arith, p1.next_is, p2.within, p3.next_is, p4.within);
      wrote = failed c.args.t told row;
    }
