-- T-01 written out, from its theorem; its examples, by computation over the definitions.
-- Assumes nothing.
use mathlib.Core.{Path.{refl, ap}, List.{◌∷◌, ◌++◌}}
use Rattle.rules.{specs.Bytes.{zeros?, same?}, specs.Record.{possible, possible_transfer, possible_security, possible_thresholds, possible_reading, possible_parts, possible_trips, possible_cabinet}, specs.Refusals.verdict}
use Rattle.rules.{specs.Table.{row_of, fits?, mask}, specs.Image.sum_of_words, specs.Fault.{record_fault, records_fault, first_fault, image_of}, specs.Cabinet.{call_result, tick_result, power_result, reading_result}, specs.Health.{above, trips}}
use Rattle.rules.{specs.Text.decimal, specs.Log.entry_of, specs.Replay.whole_after}
use Rattle.rules.{specs.Report.{Report, report_after, fits, feed, two_swapped}, proofs.page.Sums.request_T01}
use Rattle.rules_demands.specs.Reports.{ReportsWrittenOut, ReportsHeld}

pub written_out : ReportsWrittenOut
written_out =
    record {
      calls = λ logs t. (request_T01.all_taken logs t).sums.calls;
      ticks = λ logs t. (request_T01.all_taken logs t).sums.ticks;
      powers = λ logs t. (request_T01.all_taken logs t).sums.powers;
      readings = λ logs t. (request_T01.all_taken logs t).sums.readings;
      bads = λ logs t. (request_T01.all_taken logs t).sums.bads;
      shorts = λ logs t. (request_T01.all_taken logs t).sums.shorts;
      swapped = λ first second logs t. ((request_T01.all_taken (first ∷ second ∷ logs) t).any_order (second ∷ first ∷ logs) (two_swapped {logs = logs})).1;
      any_order = λ logs others t p. (request_T01.all_taken logs t).any_order others p;
      grids_add = λ first second t. ap (λ (r : Report). r.grid) ((request_T01.all_taken (first ++ second) t).two_lists first second refl);
      ticks_add = λ first second t. ap (λ (r : Report). r.counts.ticks) ((request_T01.all_taken (first ++ second) t).two_lists first second refl);
      masks_add = λ first second t. ap (λ (r : Report). r.counts.masks) ((request_T01.all_taken (first ++ second) t).two_lists first second refl);
      powers_add = λ first second t. ap (λ (r : Report). r.counts.powers) ((request_T01.all_taken (first ++ second) t).two_lists first second refl);
      readings_add = λ first second t. ap (λ (r : Report). r.counts.readings) ((request_T01.all_taken (first ++ second) t).two_lists first second refl);
      bads_add = λ first second t. ap (λ (r : Report). r.counts.bads) ((request_T01.all_taken (first ++ second) t).two_lists first second refl);
      shorts_add = λ first second t. ap (λ (r : Report). r.counts.shorts) ((request_T01.all_taken (first ++ second) t).two_lists first second refl);
      first_taken = λ first second t. ((request_T01.all_taken (first ++ second) t).each_list first second refl).0;
      second_taken = λ first second t. ((request_T01.all_taken (first ++ second) t).each_list first second refl).1;
      refused = request_T01.one_refused;
      counted = request_T01.one_taken;
      taken = λ r log e. (request_T01.taken_exactly r log).1 (record { cells = e.cells; masks = e.masks; ticks = e.ticks; powers = e.powers; readings = e.readings; bads = e.bads; shorts = e.shorts });
      taken_only = λ r log t.
          let e = (request_T01.taken_exactly r log).0 t in
          record { cells = e.cells; masks = e.masks; ticks = e.ticks; powers = e.powers; readings = e.readings; bads = e.bads; shorts = e.shorts };
      joined = λ first second a b e.
          (request_T01.two_machines first second a b).1
          (record { cells = e.cell_sums; masks = e.mask_sum; ticks = e.tick_sum; powers = e.power_sum; readings = e.reading_sum; bads = e.bad_sum; shorts = e.short_sum });
      joined_only = λ first second a b t.
          let e = (request_T01.two_machines first second a b).0 t in
          record { cell_sums = e.cells; mask_sum = e.masks; tick_sum = e.ticks; power_sum = e.powers; reading_sum = e.readings; bad_sum = e.bads; short_sum = e.shorts };
    }

pub reports_held : ReportsHeld
unfolding zeros? same? possible possible_transfer possible_security possible_thresholds possible_reading possible_parts possible_trips possible_cabinet verdict row_of fits? mask sum_of_words record_fault records_fault first_fault image_of call_result tick_result power_result reading_result above trips decimal entry_of whole_after report_after fits feed
reports_held = record { printed = refl; largest_fits = refl; too_many_first = refl; too_many_fourth = refl; too_many_fifth = refl }
