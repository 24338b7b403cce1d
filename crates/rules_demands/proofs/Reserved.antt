-- T-05 written out follows from its theorem: where a call gives no R number, is served and has its length, the function's own checks decide.
-- Assumes nothing.
use Prim.Native.Nat.{ℕ, ◌+◌, ◌*◌, ◌≤◌, ◌<◌}
use mathlib.Core.{Path.{◌≡◌, refl, sym, ◌∙◌, ap}, Bool.{Bool, true, false, not}, List.{List, [], ◌∷◌}}
use lib.ListN.{length}
use native.Mathlib.Omega.{arith}
use borrow.Author.Tests.{le-ltb, eq-eqb, eqb-true}
use Rattle.std.specs.Prelude.{if◌then◌else◌}
use Rattle.rules.specs.{Tests.{◌=?◌, ◌<?◌}, Bytes.{zeros?, of_le}, Record.{possible_cabinet, ◌is◌, live, Whole, device_of, standing}, Refusals.{◌gives◌, verdict}, Table.{row_of, fits?}}
use Rattle.rules.specs.{Module.{Call, call_in, checks, change}, Cabinet.{Result, call_result, outcome, gate_checks}, Thresholds.{set_threshold_of, threshold_checks}, Reserved.RequestT05}
use Rattle.rules.specs.declared.{Refusal.TheVariants.{R, Status}, Phase.TheVariants.Receiving, Device.Device}
use Rattle.rules.proofs.page.Passed.{and_then, verdict_join}
use Rattle.rules_demands.specs.Reserved.{ReservedWrittenOut, ReservedMeansZero, ReservedHeld}
use Rattle.rules.specs.Refusals.{Verdict}
use Rattle.std.specs.Prelude.{Ok, Err}

not_zeros : (first second third : ℕ) → 0 < first + second + third → zeros? (first ∷ second ∷ third ∷ []) ≡ false
unfolding zeros?
not_zeros first second third l = go (first =? 0) refl (second =? 0) refl (third =? 0) refl
  where
    go : (x : Bool) → (first =? 0) ≡ x → (y : Bool) → (second =? 0) ≡ y → (z : Bool) → (third =? 0) ≡ z → zeros? (first ∷ second ∷ third ∷ []) ≡ false
    go false e y f z g = rw e
    go true e false f z g = rw (e, f)
    go true e true f false g = rw (e, f, g)
    go true e true f true g = absurd (omega (arith, eqb-true first 0 e, eqb-true second 0 f, eqb-true third 0 g))

module _ (w : Whole) (named : ℕ) (buffer : List ℕ) (n : named ≤ 1) (p : possible_cabinet w.cabinet ≡ true) (l : length w.area ≡ 16384) (room : 132 ≤ length buffer) where
  open_to_finish : (flag first second third a b c d : ℕ) → verdict (gate_checks w named 2 15 (flag ∷ first ∷ second ∷ third ∷ a ∷ b ∷ c ∷ d ∷ []) buffer) ≡ Ok tt
  unfolding verdict row_of fits?
  open_to_finish flag first second third a b c d = simp (le-ltb (length buffer) 132 room, eq-eqb (length w.area) 16384 l, le-ltb 1 named n, p)

  open_to_set : (low high spare a b c d : ℕ) → verdict (gate_checks w named 2 17 (low ∷ high ∷ spare ∷ a ∷ b ∷ c ∷ d ∷ []) buffer) ≡ Ok tt
  unfolding verdict row_of fits?
  open_to_set low high spare a b c d = simp (le-ltb (length buffer) 132 room, eq-eqb (length w.area) 16384 l, le-ltb 1 named n, p)

  own : (index : ℕ) (request : List ℕ) (v : Verdict) → verdict (gate_checks w named 2 index request buffer) ≡ Ok tt → verdict (checks (standing named w) (call_in 2 index request)) ≡ v
      → call_result w named 2 index request buffer ≡ outcome v w named (call_in 2 index request) (row_of index).answer buffer
  unfolding call_result
  own index request v gate_open e =
      let gate = gate_checks w named 2 index request buffer in
      let asked = call_in 2 index request in
      ap (λ (u : Verdict). outcome u w named asked (row_of index).answer buffer)
      (verdict_join gate (checks (standing named w) asked) ∙ ap (λ (u : Verdict). and_then u (verdict (checks (standing named w) asked))) gate_open ∙ e)

-- the number of one byte, and of two
one : (n : ℕ) → n + 0 ≡ n
one n = omega arith

two : (n k : ℕ) → of_le (n ∷ k ∷ []) ≡ n + 256 * k
two n k = omega arith

-- a call's reply has its verdict
told : (v : Verdict) (w : Whole) (named : ℕ) (asked : Call) (n : ℕ) (buffer : List ℕ) → (outcome v w named asked n buffer).reply.verdict ≡ v
told (Ok tt) w named asked n buffer = refl
told (Err (R number)) w named asked n buffer = refl
told (Err (Status status ext)) w named asked n buffer = refl

-- a record in its place is the module's
in_place : (z : Bool) (d first second : Device) → (if z then (if z then d else first) else (if z then second else d)) ≡ d
in_place true d first second = refl
in_place false d first second = refl

module _ (w : Whole) (named : ℕ) (buffer : List ℕ) (few : named ≤ 1) (p : possible_cabinet w.cabinet ≡ true) (l : length w.area ≡ 16384) (room : 132 ≤ length buffer) where
  -- a call's verdict is that of the function's own checks
  judged : (index : ℕ) (request : List ℕ) → verdict (gate_checks w named 2 index request buffer) ≡ Ok tt
      → (call_result w named 2 index request buffer).reply.verdict ≡ verdict (checks (standing named w) (call_in 2 index request))
  judged index request gate_open =
      let v = verdict (checks (standing named w) (call_in 2 index request)) in
      ap (λ (r : Result). r.reply.verdict) (own w named buffer few p l room index request v gate_open refl) ∙ told v w named (call_in 2 index request) (row_of index).answer buffer

  of_calls : RequestT05 → (host : ℕ) → ReservedWrittenOut w host named buffer
  unfolding row_of zeros?
  of_calls demand host =
      record {
        finish_zeros = λ flag a b c d.
            judged 15 (flag ∷ 0 ∷ 0 ∷ 0 ∷ a ∷ b ∷ c ∷ d ∷ []) (open_to_finish w named buffer few p l room flag 0 0 0 a b c d)
            ∙ demand.finish_zeros (device_of named w.cabinet).transfer (flag + 0) (0 ∷ 0 ∷ 0 ∷ []) (of_le (a ∷ b ∷ c ∷ d ∷ [])) refl
            ∙ (λ i. verdict
            ((1 <? one flag i gives Status 3 0)
            ∷ (not (live (device_of named w.cabinet).transfer (of_le (a ∷ b ∷ c ∷ d ∷ []))) gives Status 7 1)
            ∷ (not ((device_of named w.cabinet).transfer.phase is Receiving) gives Status 7 2)
            ∷ []));
        set_zeros = λ low spare a b c d small.
            judged 17 (low ∷ 0 ∷ spare ∷ a ∷ b ∷ c ∷ d ∷ []) (open_to_set w named buffer few p l room low 0 spare a b c d)
            ∙ demand.set_zeros (of_le (low ∷ 0 ∷ [])) (spare + 0) (of_le (a ∷ b ∷ [])) (of_le (c ∷ d ∷ [])) (omega arith)
            ∙ (λ i. verdict ((100 <? one spare i gives Status 3 0) ∷ []));
        finish = λ flag first second third a b c d n.
            own w named buffer few p l room 15 (flag ∷ first ∷ second ∷ third ∷ a ∷ b ∷ c ∷ d ∷ []) (Err (Status 3 0)) (open_to_finish w named buffer few p l room flag first second third a b c d)
            (demand.finish_reserved (device_of named w.cabinet).transfer (flag + 0) (first ∷ second ∷ third ∷ []) (of_le (a ∷ b ∷ c ∷ d ∷ [])) (not_zeros first second third n));
        set = λ low high spare a b c d n.
            own w named buffer few p l room 17 (low ∷ high ∷ spare ∷ a ∷ b ∷ c ∷ d ∷ []) (Err (Status 3 0)) (open_to_set w named buffer few p l room low high spare a b c d)
            (demand.set_reserved (of_le (low ∷ high ∷ [])) (spare + 0) (of_le (a ∷ b ∷ [])) (of_le (c ∷ d ∷ [])) (omega arith));
        stored = λ low high spare a b c d v.
            let request : List ℕ = low ∷ high ∷ spare ∷ a ∷ b ∷ c ∷ d ∷ [] in
            let is_open = open_to_set w named buffer few p l room low high spare a b c d in
            let accepted : verdict (threshold_checks (set_threshold_of request)) ≡ (Ok tt) =
            sym (told (verdict (threshold_checks (set_threshold_of request))) w named (call_in 2 17 request) 4 buffer)
            ∙ ap (λ (r : Result). r.reply.verdict) (sym (own w named buffer few p l room 17 request (verdict (threshold_checks (set_threshold_of request))) is_open refl)) ∙ v in
            ap (λ (r : Result). (device_of named r.after.cabinet).thresholds) (own w named buffer few p l room 17 request (Ok tt) is_open accepted)
            ∙ ap (λ (x : Device). x.thresholds) (in_place (named =? 0) (change (standing named w) (call_in 2 17 request)).device w.cabinet.first w.cabinet.second)
            ∙ demand.nothing_cleared (device_of named w.cabinet).thresholds (of_le (low ∷ high ∷ [])) (spare + 0) (of_le (a ∷ b ∷ [])) (of_le (c ∷ d ∷ [])) accepted
            ∙ (λ i. record { enable = two low high i; spare = one spare i; media = two a b i; controller = two c d i });
      }

pub written_out : RequestT05 → ReservedMeansZero
written_out demand = record { any_bit = λ k low high. demand.any_bit k (low + 256 * high); of_calls = λ w host named buffer few p l room. of_calls w named buffer few p l room demand host }

pub reserved_held : ReservedHeld
unfolding verdict zeros?
reserved_held = record { finish_bits = refl; finish_flags = refl; set_bits = refl; set_spares = refl }
