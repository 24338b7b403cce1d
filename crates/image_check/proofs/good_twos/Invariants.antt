-- `image_check::good_twos` meets its contract: past each two good records the first bad one of those left is that of the whole.
use Rattle.std.proofs.Common.{◌≡◌, ◌-◌, ◌/◌, length}
use Rattle.image_record.specs.Front.{front_of}
use Rattle.image_check.specs.Walk.{Left}
use Rattle.image_check.proofs.good_twos.Given as goal

abbrev pub invariant-loop-two : goal.invariant-loop-two
invariant-loop-two l = record {
  walked : Left l.n l.version l.left l.bytes;
  front_is : l.front ≡ front_of (l.n - length l.left / 128) l.n l.version;
}

abbrev pub decreases-loop-two : goal.decreases-loop-two
decreases-loop-two l = length l.left
