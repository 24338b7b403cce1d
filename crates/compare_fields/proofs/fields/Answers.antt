-- `compare_fields::fields` meets its contract: the request is all that stands behind the first eight bytes.
-- Assumes nothing.
use Rattle.std.proofs.Common.{◌≡◌, ℕ, ◌-◌, ◌≤◌, not, List, length, take, drop, ap, ◌∙◌, arith, length-drop}
use Rattle.std.specs.Prelude.{if◌then◌else◌}
use Rattle.std.proofs.Math.Seq.{take_all}
use Rattle.rules.specs.Bytes.{same?}
use Rattle.compare_fields.proofs.fields.Goals as goal

-- all that stands behind the first eight bytes
request : (place : List ℕ) (end : ℕ) → length place ≤ end → take (end - 8) (drop 8 place) ≡ drop 8 place
request place end h = take_all (end - 8) (drop 8 place) (rw length-drop (omega arith))

pub returns-clause-value : goal.returns-clause-value
returns-clause-value c =
    let a = c.args.a.now in
    let b = c.args.b.now in
    let end = c.max-end.result in
    let of_request =
    c.differs-6.ensures
    ∙ ap (λ (l : List ℕ). if not (same? l (take (end - 8) (drop 8 b))) then 1 else 0) (request a end (omega (arith, c.max-end.ensures)))
    ∙ ap (λ (l : List ℕ). if not (same? (drop 8 a) l) then 1 else 0) (request b end (omega (arith, c.max-end.ensures, c.requires))) in
    omega (arith, c.differs.ensures, c.differs-2.ensures, c.differs-3.ensures, c.differs-4.ensures, c.differs-5.ensures, of_request)
