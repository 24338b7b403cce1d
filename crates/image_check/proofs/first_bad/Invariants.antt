-- `image_check::first_bad` meets its contract: past each good record the first bad one of those left is that of the whole, and a bad one is it.
use Rattle.std.proofs.Common.{length}
use Rattle.image_check.specs.Walk.{Left}
use Rattle.image_check.proofs.first_bad.Given as goal

abbrev pub invariant-loop-record : goal.invariant-loop-record
invariant-loop-record l = Left l.n l.version l.left l.bytes

abbrev pub decreases-loop-record : goal.decreases-loop-record
decreases-loop-record l = length l.left
