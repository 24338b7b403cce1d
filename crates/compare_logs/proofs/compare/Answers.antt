-- `compare_logs::compare` meets its contract: the first n bytes of either log are those that are compared, and the list has room, or has not.
-- Assumes nothing.
use Rattle.std.proofs.Common.{◌≡◌, ◌∙◌, ap, take, length, arith}
use Rattle.std.proofs.Math.ListN.{length-take}
use Rattle.rules.specs.Compare.{compared}
use Rattle.compare_places.specs.{declared.SoFar.{SoFar}, SoFar.{part_listed}}
use Rattle.compare_logs.proofs.Laws.{all_listed}
use Rattle.compare_logs.proofs.compare.Goals as goal

pub returns : goal.returns
returns c =
    let first = c.args.first.now in
    let second = c.args.second.now in
    let n = c.min-both.result in
    let common : n ≡ length (compared first second) = omega (arith, c.min-both.ensures, length-take (length second) first) in
    let listed = ap (λ (s : SoFar). part_listed s (take n first) (take n second) c.args.list.now) c.none.ensures in
    let all = all_listed first second n common c.count-leading.ensures c.args.list.now (omega (arith, c.if-list-differing.false)) (c.with_part.ensures.list_after ∙ listed) in
    record { value = all.0; list_after = all.1 }
