-- The records that a walk finds, and the tail, are all the bytes of the log, in order; and the tail has the bytes that 544 leaves over.
-- Assumes nothing.
use mathlib.Core.{Path.{◌≡◌, sym, ◌∙◌, ap}, List.{List, ◌++◌, append_assoc}}
use Prim.Native.Nat.{ℕ, zero, suc, ◌+◌, ◌*◌, ◌%◌, ◌-◌}
use native.Mathlib.Omega.{arith}
use lib.{ListN.{length, drop, take-append-drop, length-drop}, Seq.drop-drop}
use Rattle.rules.specs.Log.{record_size, records_in, record_at}
use Rattle.log_reader.specs.Walk.{bytes_from, tail_bytes}

-- from record j on
from : (log : List ℕ) (j count : ℕ) → bytes_from log j count ++ drop ((j + count) * record_size) log ≡ drop (j * record_size) log
from log j zero = let here : (j + 0) * record_size ≡ j * record_size = omega arith in ap (λ (at : ℕ). drop at log) here
from log j (suc count) =
    let last : (j + suc count) * record_size ≡ (suc j + count) * record_size = omega arith in
    let next : suc j * record_size ≡ j * record_size + record_size = omega arith in
    append_assoc (record_at log j) (bytes_from log (suc j) count) (drop ((j + suc count) * record_size) log)
    ∙ ap (λ (rest : List ℕ). record_at log j ++ rest)
    (ap (λ (at : ℕ). bytes_from log (suc j) count ++ drop at log) last
    ∙ from log (suc j) count
    ∙ ap (λ (at : ℕ). drop at log) next
    ∙ sym (drop-drop record_size (j * record_size) log))
    ∙ take-append-drop record_size (drop (j * record_size) log)

pub whole : (log : List ℕ) → bytes_from log 0 (records_in log) ++ tail_bytes log ≡ log
whole log =
    let all : records_in log * record_size ≡ (0 + records_in log) * record_size = omega arith in
    ap (λ (at : ℕ). bytes_from log 0 (records_in log) ++ drop at log) all ∙ from log 0 (records_in log)

pub left_over : (log : List ℕ) → length (tail_bytes log) ≡ length log % record_size
left_over log =
    let rest : length log - records_in log * record_size ≡ length log % record_size = omega arith in
    length-drop (records_in log * record_size) log ∙ rest
