-- `replay_call_line::put_call` meets its contract: the fields are written one after the other, and are those of the line that the function's index chooses.
use borrow.Author.Tests.{eq-eqb, ne_eqb}
use native.Mathlib.Omega.{arith}
use Rattle.text.proofs.Writing.{and_then, rewrote}
use Rattle.replay_call_line.proofs.CallLine.{line_of_0, line_of_other}
use Rattle.replay_call_line.proofs.put_call.Goals as goal

pub returns-then-function-eq0 : goal.returns-then-function-eq0
returns-then-function-eq0 c = let a = c.args in
    let p1 = c.put_field-next.ensures in
    let p2 = c.put_field.ensures in
    record {
      within = omega (arith, p1.within, p2.within);
      wrote = rewrote (line_of_0 a.number a.function a.reply (eq-eqb a.function 0 c.if-function-eq0.true)) (and_then (omega (arith, c.requires)) p1.wrote p2.wrote);
    }

pub returns : goal.returns
returns c = let a = c.args in
    let p1 = c.put_field-a.ensures in
    let p2 = c.put_field-b.ensures in
    let p3 = c.put_field-c.ensures in
    let p4 = c.put_field-2.ensures in
    let line = line_of_other a.number a.function a.reply (ne_eqb a.function 0 c.if-function-eq0.false) c.printed_status-status.ensures c.printed_ext-ext.ensures in
    record {
      within = omega (arith, p1.within, p2.within, p3.within, p4.within);
      wrote = rewrote line
          (and_then (omega (arith, c.requires)) (and_then (omega (arith, c.requires)) (and_then (omega (arith, c.requires)) p1.wrote p2.wrote) p3.wrote) p4.wrote);
    }
