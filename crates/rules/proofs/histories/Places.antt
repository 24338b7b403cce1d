-- A module's number, and the module from which an event of it is seen.
-- Assumes nothing.
use Prim.Native.Nat.{ℕ, ◌≤◌}
use mathlib.Core.{Path.{◌≡◌, refl, ap}, Bool.{Bool, true, false, not}}
use borrow.Author.Tests.{le-ltb}
use Rattle.std.specs.Prelude.{if◌then◌else◌}
use Rattle.rules.specs.{Tests.{◌=?◌, ◌<?◌}, Transfers.Powered, Sends.power_count}
use Rattle.rules.proofs.{page.Split.{number, mine?, toward, Doing, Mine}, page.Through.side_named}

-- a module of number 0 or 1 is there
pub at_number : (named : ℕ) → named ≤ 1 → (1 <? named) ≡ false
at_number named l = le-ltb 1 named l

pub at_side : (named : ℕ) → named ≤ 1 → number (named =? 0) ≡ named
at_side named l = side_named named (at_number named l)

-- a module's own power cycle counts as one
pub own_number : (first : Bool) → power_count (number first) (Powered (number first)) ≡ 1
own_number true = refl
own_number false = refl

-- seen from the module that it names, an event is that module's own
pub mine_here : (z : Bool) → (if z then z else not z) ≡ true
mine_here true = refl
mine_here false = refl

pub own_act : (named : ℕ) (d : Doing) → toward (mine? (named =? 0) named) d ≡ Mine d
own_act named d = ap (λ (m : Bool). toward m d) (mine_here (named =? 0))
