-- Document 01, "Cases for the bench" and "The replay program": every case marked P holds, and every log of the list prints its text, by computation over the
-- definitions.
-- Assumes nothing.
use mathlib.Core.{Path.{◌≡◌, refl}, List.{[], map}}
use Rattle.rules.specs.{Bytes.{zeros?, same?}, Record.{possible, possible_transfer, possible_security, possible_thresholds, possible_reading, possible_parts, possible_trips, possible_cabinet}, Refusals.verdict}
use Rattle.rules.specs.{Table.{row_of, fits?, mask}, Image.sum_of_words, Fault.{record_fault, records_fault, first_fault, image_of}, Cabinet.{call_result, tick_result, power_result, reading_result}, Health.{above, trips}}
use Rattle.rules.specs.{Text.decimal, Log.entry_of, Replay.{whole_after, record_lines, replay_text}, Cases.{cases, failing}, Texts.{texts, log_of, text_of}}

-- No row of the case list fails.
pub claim : failing 0 cases ≡ []
unfolding zeros? same? possible possible_transfer possible_security possible_thresholds possible_reading possible_parts possible_trips possible_cabinet verdict row_of fits? mask sum_of_words record_fault records_fault first_fault image_of call_result tick_result power_result reading_result above trips
claim = refl

-- Every log of the list of texts prints its text.
pub texts_claim : map (λ row. replay_text (log_of row)) texts ≡ map text_of texts
unfolding zeros? same? possible possible_transfer possible_security possible_thresholds possible_reading possible_parts possible_trips possible_cabinet verdict row_of fits? mask sum_of_words record_fault records_fault first_fault image_of call_result tick_result power_result reading_result above trips decimal entry_of whole_after record_lines replay_text
texts_claim = refl
