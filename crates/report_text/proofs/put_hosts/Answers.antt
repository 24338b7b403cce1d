-- `report_text::put_hosts` meets its contract. The loop's invariant: the lines of the first rows were written.
use mathlib.Core.List.{[]}
use native.Mathlib.Omega.{arith}
use Rattle.text.proofs.Writing.{rewrote}
use Rattle.report_text.specs.Lines.{host_room, host_line}
use Rattle.report_text.proofs.{Within.nothing_yet, First.{first, one_more, whole_grid}}
use Rattle.report_text.proofs.put_hosts.Goals as goal

pub loop-before-init : goal.loop-before-init
unfolding first
loop-before-init c = nothing_yet c.args.out.now c.args.at

pub loop-before-preserved : goal.loop-before-preserved
loop-before-preserved c = one_more [] host_line 1 c.args.grid.now c.loop-before.before host_room (omega arith) c.loop-before.invariant c.put_host-next.ensures

pub returns : goal.returns
returns c =
    let p = c.loop-before.invariant in
    record { within = omega arith; wrote = rewrote (whole_grid c.args.grid.now (omega arith)) p.wrote }
