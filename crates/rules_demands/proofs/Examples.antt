-- The case list and the list of texts have what they must, by computation over the definitions.
-- Assumes nothing.
use mathlib.Core.{Path.{◌≡◌, refl}, List.{[], ◌∷◌, map}}
use lib.ListN.{replicate}
use Rattle.rules.{specs.Bytes.{zeros?, same?}, specs.Record.{possible, possible_transfer, possible_security, possible_thresholds, possible_reading, possible_parts, possible_trips, possible_cabinet}, specs.Refusals.verdict}
use Rattle.rules.{specs.Table.{row_of, fits?}, specs.Image.sum_of_words, specs.Fault.{record_fault, records_fault, first_fault, image_of}, specs.Cabinet.{call_result, tick_result, power_result, reading_result}, specs.Health.{above, trips}}
use Rattle.rules.{specs.Log.entry_of, specs.Replay.whole_after, specs.Cases.{cases, failing}, proofs.page.Claim.{claim, texts_claim}}
use Rattle.rules_demands.specs.Examples.{wrong_cases, near_misses, not_the_end_of, looking, CasesHeld, TextsHeld}

wrong_ones_fail : failing 0 wrong_cases ≡ 0 ∷ 1 ∷ 2 ∷ 3 ∷ 4 ∷ 5 ∷ 6 ∷ 7 ∷ 8 ∷ 9 ∷ 10 ∷ 11 ∷ 12 ∷ 13 ∷ 14 ∷ []
unfolding zeros? same? possible possible_transfer possible_security possible_thresholds possible_reading possible_parts possible_trips possible_cabinet verdict row_of fits? sum_of_words record_fault records_fault first_fault image_of call_result tick_result power_result reading_result above trips
wrong_ones_fail = refl

ends_seen : map (not_the_end_of 0 cases) near_misses ≡ replicate 9 looking
unfolding same?
ends_seen = refl

pub cases_held : CasesHeld
cases_held = record { hold = claim; how_many = refl; how_long = refl; wrong_ones_fail = wrong_ones_fail; ends_seen = ends_seen }

pub texts_held : TextsHeld
unfolding zeros? possible possible_transfer possible_security possible_thresholds possible_reading possible_parts possible_trips possible_cabinet verdict reading_result entry_of whole_after above trips
texts_held = record { print = texts_claim; these = refl; five_bytes = refl; other_bytes = refl; kept = refl; begins = refl }
