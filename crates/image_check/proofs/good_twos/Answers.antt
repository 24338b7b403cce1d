-- `image_check::good_twos` meets its contract: past each two good records the first bad one of those left is that of the whole.
use Rattle.std.proofs.Common.{ℕ, ◌<◌, rules}
use Rattle.std.proofs.lemmas.Option.{MatchOption-at_some}
use Rattle.image_check.proofs.Laws.{halves, two_go_on}
use Rattle.image_check.proofs.good_twos.Goals as goal

pub loop-two-preserved : goal.loop-two-preserved
loop-two-preserved c =
    let few : c.args.n < 65536 = search rules in
    let first = MatchOption-at_some _ _ _ c.unwrap-first.ensures c.first_chunk.ensures.cases in
    let second = MatchOption-at_some _ _ _ c.unwrap-second.ensures c.last_chunk.ensures.cases in
    let both = halves c.loop-two.left.now c.in-Some.ensures.cases first.same second.1.same in
    let on = two_go_on c.loop-two.invariant.walked few (λ (place : ℕ). (c.type_inv.bytes place).fits) c.loop-two.invariant.front_is both.0 both.1
    c.if-not-good_two.ensures in
    record { walked = on.0; front_is = on.1 }
