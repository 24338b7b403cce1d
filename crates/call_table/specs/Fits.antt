-- That a request has the bytes that its function reads is a fact, known in one way only.
-- Assumes nothing.
use Rattle.std.specs.Prelude.{ℕ}
use Rattle.std.specs.Coded.{Coded-set, coded_ℕ, Unit-prop, le_prop}
use Rattle.rules.proofs.page.Fitting.{Fitting}
use Rattle.rules.specs.declared.Function.{Function}
use Rattle.rules.specs.declared.Function.TheVariants.{Mask, GetHealth, GetThreshold, GetFwInfo, Start, Send, Finish, Query, SetThreshold, GetSecurityState, SetPassphrase, Disable, Unlock, Freeze, Unserved}

pub Fitting-prop : (function : Function) (size : ℕ) → IsProp (Fitting function size)
Fitting-prop Mask size = Unit-prop
Fitting-prop GetHealth size = Unit-prop
Fitting-prop GetThreshold size = Unit-prop
Fitting-prop GetFwInfo size = Unit-prop
Fitting-prop Start size = Unit-prop
Fitting-prop Send size = le_prop
Fitting-prop Finish size = Coded-set coded_ℕ size 8
Fitting-prop Query size = Coded-set coded_ℕ size 4
Fitting-prop SetThreshold size = Coded-set coded_ℕ size 7
Fitting-prop GetSecurityState size = Unit-prop
Fitting-prop SetPassphrase size = Coded-set coded_ℕ size 64
Fitting-prop Disable size = Unit-prop
Fitting-prop Unlock size = Unit-prop
Fitting-prop Freeze size = Unit-prop
Fitting-prop Unserved size = Unit-prop
