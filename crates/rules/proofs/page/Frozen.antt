-- "For 20 to 23, frozen or attempts at 10 gives 10 first."
-- Assumes nothing.
use mathlib.Core.Path.{refl}
use Rattle.rules.specs.{Refusals.verdict, Security.{GetSecurityState, SetPassphrase, Disable, Unlock, Freeze}, Beside.FrozenFirst}

pub frozen_first : FrozenFirst
unfolding verdict
frozen_first s GetSecurityState e = refl
frozen_first s (SetPassphrase given new) e = simp e
frozen_first s (Disable given) e = simp e
frozen_first s (Unlock given) e = simp e
frozen_first s Freeze e = simp e
