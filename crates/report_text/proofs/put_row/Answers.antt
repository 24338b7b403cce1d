-- `report_text::put_row` meets its contract. The loop's invariant: the first counts were written.
use native.Mathlib.Omega.{arith}
use Rattle.text.proofs.Writing.{and_then, rewrote}
use Rattle.report_text.proofs.{Within.{exactly, then_within, nothing_yet}, First.{first, count_text, one_more, whole_row}}
use Rattle.report_text.proofs.put_row.Goals as goal

pub loop-count-init : goal.loop-count-init
unfolding first
loop-count-init c = nothing_yet c.args.out.now c.args.at

pub loop-count-preserved : goal.loop-count-preserved
loop-count-preserved c =
    let l = c.loop-count in
    let decimal = rw c.from.ensures at c.put_decimal-next.ensures in
    let count = then_within (omega arith) (exactly c.put-spaced.ensures) decimal in
    one_more 0 count_text 0 c.args.row.now l.count-index 21 (omega arith) l.invariant count

pub returns : goal.returns
returns c =
    let p = c.loop-count.invariant in
    let q = c.put.ensures in
    record { within = omega arith; wrote = rewrote (whole_row c.args.row.now (omega arith)) (and_then (omega arith) p.wrote q) }
