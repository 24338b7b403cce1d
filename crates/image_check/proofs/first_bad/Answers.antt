-- `image_check::first_bad` meets its contract: past each good record the first bad one of those left is that of the whole, and a bad one is it.
use Rattle.image_check.proofs.Laws.{is_one, goes_on, ends_here, its_record, none_left}
use Rattle.image_check.proofs.first_bad.Goals as goal

pub returns-then-not-good_record : goal.returns-then-not-good_record
returns-then-not-good_record c =
    let left = c.loop-record.invariant in
    let split = c.in-Some.ensures.cases in
    (ends_here left split c.if-not-good_record.ensures, is_one left split, its_record left split)

pub loop-record-preserved : goal.loop-record-preserved
loop-record-preserved c = goes_on c.loop-record.invariant c.in-Some.ensures.cases c.if-not-good_record.ensures

pub returns : goal.returns
returns c = none_left c.loop-record.invariant c.in_default.ensures.cases
