-- `replay_log::play_at` meets its contract: the reader's answer is what stands at the place, and each arm plays that.
use native.Mathlib.Omega.{arith}
use Rattle.log_reader.specs.declared.Found.TheVariants.{End}
use Rattle.rules.specs.Record.{whole_of}
use Rattle.replay_log.proofs.Found.{record_within, record_says, as_found, as_record, nothing_written}
use Rattle.replay_log.proofs.play_at.Goals as goal

pub overflow_mul-start : goal.overflow_mul-start
overflow_mul-start c =
    let a = c.args in
    let inside = record_within a.log.now a.place c.read_at.ensures c.in-Record.is in
    omega (arith, inside)

pub overflow_add-end : goal.overflow_add-end
overflow_add-end c =
    let a = c.args in
    let inside = record_within a.log.now a.place c.read_at.ensures c.in-Record.is in
    omega (arith, inside)

pub slice_bounds-play_entry-end : goal.slice_bounds-play_entry-end
slice_bounds-play_entry-end c = let a = c.args in
    record_within a.log.now a.place c.read_at.ensures c.in-Record.is

pub play_entry-requires-clause-value : goal.play_entry-requires-clause-value
play_entry-requires-clause-value c = let a = c.args in
    record_says a.log.now a.place c.read_at.ensures c.in-Record.is

pub returns-in-Record : goal.returns-in-Record
returns-in-Record c = let a = c.args in
    as_record a.log.now a.place c.read_at.ensures a.number (whole_of a.c a.area.now) c.in-Record.is c.play_entry.ensures

pub returns-in-End : goal.returns-in-End
returns-in-End c = let a = c.args in
    as_found a.log.now a.place c.read_at.ensures a.number (whole_of a.c a.area.now) End c.in-End.is (nothing_written a.out.now)
