-- What a C function tells its caller of a reply, and what it leaves in the record's bytes (crate cabinet_bytes).
-- Assumes nothing.
use mathlib.Core.{Path.◌≡◌, Bool.{Bool, true, false}, List.List}
use Rattle.std.specs.Prelude.{ℕ, ◌≤◌, ℤ, pos, neg_ℤ, length}
use Rattle.std.specs.Prelude.{if◌then◌else◌}
use Rattle.rules.specs.Tests.{◌=?◌}
use Rattle.rules.specs.Numbers.{answer_room}
use Rattle.rules.specs.Cabinet.{Result}
use Rattle.rules.specs.declared.{Refusal.TheVariants.{R, Status}, Reply.Reply, Cabinet.Cabinet}
use Rattle.cabinet_bytes.specs.Encoding.{cabinet_size, encode_cabinet, Around}
use Rattle.rules.specs.Refusals.{Verdict}
use Rattle.std.specs.Prelude.{Ok, Err}

-- R1 to R5 are -1 to -5
abbrev pub refusal : ℕ → ℤ
refusal number = neg_ℤ (pos number)

-- the number given: the answer's length, or an R number
abbrev pub told_by : Verdict → (n : ℕ) → ℤ
told_by (Ok tt) n = pos n
told_by (Err (R number)) n = refusal number
told_by (Err (Status status ext)) n = pos n

abbrev pub told : Reply → ℤ
told reply = told_by reply.verdict reply.length

-- what is accepted writes the record; a refusal leaves it, but for status 11, which counts an attempt
abbrev pub writes : Verdict → Bool
writes (Ok tt) = true
writes (Err (R number)) = false
writes (Err (Status status ext)) = status =? 11

-- the record's bytes
abbrev pub kept_by : Verdict → (new : Cabinet) (bytes : List ℕ) → List ℕ
kept_by v new bytes = if writes v then encode_cabinet new else bytes

abbrev pub kept : Result → (bytes : List ℕ) → List ℕ
kept result bytes = kept_by result.reply.verdict result.after.cabinet bytes

-- what a function leaves: the number that it gives, and the record's bytes at its end
pub record Leaves (number : ℤ) (bytes : List ℕ) (given : ℤ) (bytes' : List ℕ) : Type 0 where
  pub number_is : given ≡ number
  pub bytes_are : bytes' ≡ bytes

-- what the work may count on: the length fits the number given; and where the record is written it has its bytes, or all of them but one module's and the contexts
pub record Keepable (reply : Reply) (bytes : List ℕ) : Type 0 where
  pub sized : writes reply.verdict ≡ true → length bytes ≡ cabinet_size
  pub short : reply.length ≤ answer_room

pub record KeepableNamed (reply : Reply) (new : Cabinet) (named : ℕ) (bytes : List ℕ) : Type 0 where
  pub around : writes reply.verdict ≡ true → Around named new bytes
  pub short : reply.length ≤ answer_room
