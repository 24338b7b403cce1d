-- Every refusal number of document 01, and R5, is given by some call on some record: a witness for each, in the order of `refusal_numbers`, computed.
-- Assumes nothing.
use Prim.Native.Nat.{ℕ}
use native.Mathlib.Omega.{arith}
use mathlib.Core.{Path.{◌≡◌, refl, sym, ◌∙◌, ap}, Logic.{inl, inr}, Bool.true, List.{List, [], ◌∷◌, map}}
use lib.ListN.{length, replicate}
use Rattle.rules.specs.{Bytes.{le, zeros, zeros?, same?}, Numbers.{area_size, last_context}}
use Rattle.rules.specs.With.{◌with_phase◌, ◌with_current◌, ◌with_reason◌, ◌with_enabled◌, ◌with_frozen◌, ◌with_transfer◌, ◌with_security◌}
use Rattle.rules.specs.Record.{fresh, possible, possible_transfer, possible_security, possible_thresholds, possible_reading, possible_parts, possible_trips, possible_cabinet, Whole, whole_of}
use Rattle.rules.specs.{Refusals.verdict, Table.{row_of, fits?}, Cabinet.{call_result, reading_result}, Health.{new_reading, above, trips}}
use Rattle.rules.specs.{Demand1.{refusal_numbers, Among, GivenBySome, reading_numbers, GivenByReading}, declared.Phase.Phase}
use Rattle.rules.specs.{declared.Phase.TheVariants.{Idle, Receiving, Staged, Failed}, declared.Refusal.Refusal}
use Rattle.rules.specs.{declared.Security.Security, declared.Device.Device}
use Rattle.rules.specs.Refusals.{Verdict}
use Rattle.std.specs.Prelude.{Ok, Err}

-- a call at revision 2: the cabinet that it finds, the module, the function, the request, the answer buffer
record Witness : Type 0 where
  found : Whole
  named : ℕ
  index : ℕ
  request : List ℕ
  answer : List ℕ

abbrev verdict_on : Witness → Verdict
verdict_on w = (call_result w.found w.named 2 w.index w.request w.answer).reply.verdict

-- a cabinet whose module 0 has this record, and whose module 1 is fresh, with so many contexts given
abbrev beside : (contexts : ℕ) → Device → Whole
beside contexts d = whole_of (record { contexts = contexts; first = d; second = fresh }) (zeros area_size)

-- module 0 in this phase, with this context, the last one given; one that failed, for the size; one with this security; and a call with room for its answer
abbrev in_phase : Phase → (context : ℕ) → Whole
in_phase phase context = beside context (fresh with_transfer (fresh.transfer with_phase phase with_current context))

abbrev failed : Whole
failed = beside 1 (fresh with_transfer (fresh.transfer with_phase Failed with_current 1 with_reason 1))

abbrev secured : Security → Whole
secured s = beside 0 (fresh with_security s)

abbrev asked : Whole → (index : ℕ) (request : List ℕ) → Witness
asked w index request = record { found = w; named = 0; index = index; request = request; answer = zeros 132 }

-- a record that is not possible: Receiving with no context given
abbrev impossible : Whole
impossible = in_phase Receiving 0

witnesses : List Witness
witnesses =
    record { found = in_phase Idle 0; named = 0; index = 13; request = []; answer = zeros 131 }
    ∷ asked (whole_of impossible.cabinet []) 13 []
    ∷ record { found = impossible; named = 2; index = 13; request = []; answer = zeros 132 }
    ∷ asked impossible 13 []
    ∷ asked (in_phase Idle 0) 18 []
    ∷ asked (in_phase Idle 0) 13 (zeros 1)
    ∷ asked (in_phase Staged 1) 16 (le 4 1)
    ∷ asked (in_phase Receiving 1) 13 []
    ∷ asked (in_phase Staged 1) 13 []
    ∷ asked failed 16 (le 4 1)
    ∷ asked (in_phase Receiving 1) 16 (le 4 1)
    ∷ asked (in_phase Idle last_context) 13 []
    ∷ asked (secured (fresh.security with_frozen true)) 23 []
    ∷ asked (secured (fresh.security with_enabled true)) 21 (replicate 32 1)
    ∷ []

claim : map verdict_on witnesses ≡ map Err refusal_numbers
unfolding zeros? same? possible possible_transfer possible_security possible_thresholds possible_reading possible_parts possible_trips possible_cabinet verdict row_of fits? call_result witnesses above trips
claim = refl

-- the first of a list, and the others
abbrev first : List Verdict → Verdict
first [] = Ok tt
first (v ∷ vs) = v

abbrev others : List Verdict → List Verdict
others [] = []
others (v ∷ vs) = vs

each_of : (numbers : List Refusal) (ws : List Witness) → map verdict_on ws ≡ map Err numbers → (refusal : Refusal) → Among numbers refusal → GivenBySome refusal
each_of [] ws e refusal a = absurd a
each_of (number ∷ numbers) [] e refusal a = let n = ap length e in absurd (omega arith)
each_of (number ∷ numbers) (w ∷ ws) e refusal (inl same) =
    record { found = w.found; named = w.named; revision = 2; index = w.index; request = w.request; answer = w.answer; refused = ap first e ∙ ap Err (sym same) }
each_of (number ∷ numbers) (w ∷ ws) e refusal (inr a) = each_of numbers ws (ap others e) refusal a

pub each_given : (refusal : Refusal) → Among refusal_numbers refusal → GivenBySome refusal
each_given refusal a = each_of refusal_numbers witnesses claim refusal a

-- The same of a reading's numbers, by a spare of 101 each time, and of module 2 the first two times: R2 comes before R5, R5 before R3, and R3 before R4.
pub each_by_reading : (refusal : Refusal) → Among reading_numbers refusal → GivenByReading refusal
unfolding zeros? possible possible_transfer possible_security possible_thresholds possible_reading possible_parts possible_trips possible_cabinet verdict reading_result above trips
each_by_reading refusal (inl same) = record { found = whole_of impossible.cabinet []; named = 2; new = new_reading 101 0 0; refused = ap Err (sym same) }
each_by_reading refusal (inr (inl same)) = record { found = impossible; named = 2; new = new_reading 101 0 0; refused = ap Err (sym same) }
each_by_reading refusal (inr (inr (inl same))) = record { found = impossible; named = 0; new = new_reading 101 0 0; refused = ap Err (sym same) }
each_by_reading refusal (inr (inr (inr (inl same)))) = record { found = in_phase Idle 0; named = 0; new = new_reading 101 0 0; refused = ap Err (sym same) }
each_by_reading refusal (inr (inr (inr (inr a)))) = absurd a
