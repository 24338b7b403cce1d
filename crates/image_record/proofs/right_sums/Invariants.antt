-- `image_record::right_sums` meets its contract: past each turn the two sums are those of the words so far, wrapped, and all words come to twice the last.
use Rattle.std.proofs.Common.{◌*◌, ◌%◌, ◌^◌}
use mathlib.Core.Path.{◌≡◌}
use Rattle.rules.specs.Image.{sum_of_words}
use Rattle.image_record.proofs.right_sums.Given as goal

abbrev pub invariant-loop-turn : goal.invariant-loop-turn
invariant-loop-turn l = (l.one ≡ sum_of_words (l.turn * 4) l.first % 2 ^ 32) × (l.other ≡ sum_of_words (l.turn * 4) l.second % 2 ^ 32)
