-- `security_checks::same_passphrase` meets its contract. Bytes of another length are not the same.
-- Assumes nothing.
use mathlib.Core.Path.{◌≡◌, ◌∙◌}
use lib.ListN.{length}
use Rattle.bytes_base.proofs.Laws.{same_lengths}
use borrow.Author.Rules.{rules}
use Rattle.security_checks.proofs.same_passphrase.Goals as goal

pub returns-in-None : goal.returns-in-None
returns-in-None c =
    let a = c.args in
    let kept : length a.passphrase ≡ 32 = search rules in
    same_lengths a.given.now a.passphrase (λ e. c.in-None.ensures.cases (e ∙ kept))
