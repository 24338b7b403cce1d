-- `image_record::sum` meets its contract: past each word the sum is that of the words so far, wrapped.
use Rattle.std.proofs.Common.{◌≡◌, ◌%◌, ◌^◌}
use Rattle.rules.specs.Image.{sum_of_words}
use Rattle.image_record.proofs.sum.Given as goal

abbrev pub invariant-loop-word : goal.invariant-loop-word
invariant-loop-word l = l.sum ≡ sum_of_words l.word l.record % 2 ^ 32
