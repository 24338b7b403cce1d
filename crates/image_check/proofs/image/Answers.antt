-- `image_check::image` meets its contract: its tests are those of the definition, in its order, and the walk stops at the first fault.
use Rattle.std.proofs.Common.{◌<◌, ◌≤◌, ◌/◌, arith, eq-eqb, ne_eqb, length}
use mathlib.Core.Path.{◌∙◌, sym}
use Rattle.rules.proofs.page.Images.{Sized}
use Rattle.image_check.proofs.Laws.{other_size, right_size, zero_has_fault, zero_decides, walk_has_fault, walk_decides, all_good}
use Rattle.image_check.proofs.image.Goals as goal
use Rattle.image_check.proofs.image.Goals.{then-bytes-records-via-then-bytes-records, then-bytes-records-via-else-bytes-records+then-records-gt-MOST_RECORDS}

pub returns-in_default : goal.returns-in_default
returns-in_default c =
    let short : length c.args.bytes.now < 128 = c.in_default.ensures.cases in
    other_size c.args.bytes.now (λ (s : Sized (length c.args.bytes.now)). omega (arith, s.some))

pub returns-then-bytes-records : goal.returns-then-bytes-records
returns-then-bytes-records c =
    other_size c.args.bytes.now (λ (s : Sized (length c.args.bytes.now)). elim c.then-bytes-records.branch [
      | then-bytes-records-via-then-bytes-records w ↦ w.if-bytes-records.true s.whole
      | then-bytes-records-via-else-bytes-records+then-records-gt-MOST_RECORDS w ↦ absurd (omega (arith, s.few, w.if-records-gt-MOST_RECORDS.true))
    ])

pub faulty-requires : goal.faulty-requires
faulty-requires c =
    let first = c.in-Some.ensures.cases in
    let size = right_size c.args.bytes.now first.enough c.if-bytes-records.false c.if-records-gt-MOST_RECORDS.false in
    (omega arith, zero_has_fault c.args.bytes.now size c.read-version.ensures first.same (eq-eqb _ _ c.if-version-eq0.true))

pub returns-then-version-eq0 : goal.returns-then-version-eq0
returns-then-version-eq0 c =
    let first = c.in-Some.ensures.cases in
    let size = right_size c.args.bytes.now first.enough c.if-bytes-records.false c.if-records-gt-MOST_RECORDS.false in
    let some : 1 ≤ length c.args.bytes.now / 128 = omega (arith, first.enough) in
    c.faulty.ensures ∙ zero_decides c.args.bytes.now size c.read-version.ensures first.same (eq-eqb _ _ c.if-version-eq0.true) some

pub faulty-requires-in-Some-first_bad : goal.faulty-requires-in-Some-first_bad
faulty-requires-in-Some-first_bad c =
    let size = right_size c.args.bytes.now c.in-Some.ensures.cases.enough c.if-bytes-records.false c.if-records-gt-MOST_RECORDS.false in
    let found = c.in-Some-first_bad.ensures in (
      omega (arith, found.1, c.if-records-gt-MOST_RECORDS.false),
      walk_has_fault c.args.bytes.now size c.read-version.ensures (ne_eqb _ _ c.if-version-eq0.false) found.0 found.1 found.2,
    )

pub returns-in-Some-first_bad : goal.returns-in-Some-first_bad
returns-in-Some-first_bad c =
    let size = right_size c.args.bytes.now c.in-Some.ensures.cases.enough c.if-bytes-records.false c.if-records-gt-MOST_RECORDS.false in
    let found = c.in-Some-first_bad.ensures in
    c.faulty-in-Some-first_bad.ensures
    ∙ walk_decides c.args.bytes.now size c.read-version.ensures (ne_eqb _ _ c.if-version-eq0.false) found.0 found.1 found.2

pub returns-in-None : goal.returns-in-None
returns-in-None c =
    let size = right_size c.args.bytes.now c.in-Some.ensures.cases.enough c.if-bytes-records.false c.if-records-gt-MOST_RECORDS.false in
    all_good c.args.bytes.now size c.read-version.ensures (ne_eqb _ _ c.if-version-eq0.false) (sym c.in-None.ensures) (omega arith)
