-- A replay gives no R number: it starts from a possible record and an area of 16,384 bytes, and each record of a log leads to such a cabinet again.
-- Assumes nothing.
use mathlib.Core.List.{List}
use Prim.Native.Nat.{ℕ, zero, suc}
use lib.ListN.{length-replicate}
use Rattle.rules.{specs.Numbers.area_size, specs.Log.record_at, specs.Replay.{replay_start, whole_after}, proofs.page.Past.{NoR, EventPassed}}
use Rattle.rules.proofs.page.Possible.{possible_fresh}
use Rattle.replay_step.{specs.Stepped.record_verdict, proofs.NoR.no_R_law}

start_sound : EventPassed replay_start
start_sound = record { whole = length-replicate {A = ℕ} area_size 0; sound = possible_fresh }

after_sound : (log : List ℕ) (j : ℕ) → EventPassed (whole_after replay_start log j)
unfolding whole_after
after_sound log zero = start_sound
after_sound log (suc j) = (no_R_law (whole_after replay_start log j) (record_at log j) (after_sound log j)).0

-- any record of any log
pub never_R : (log : List ℕ) (j : ℕ) → NoR (record_verdict (whole_after replay_start log j) (record_at log j))
never_R log j = (no_R_law (whole_after replay_start log j) (record_at log j) (after_sound log j)).1
