-- `security_checks::same_numbers` meets its contract. Four numbers of eight bytes are all the bytes (proofs/Same.antt).
-- Assumes nothing.
use borrow.Author.Rules.{rules}
use Rattle.security_checks.proofs.Same.{four}
use Rattle.security_checks.proofs.same_numbers.Goals as goal

pub returns : goal.returns
returns c = four c.args.a.now c.args.b.now (search rules) (search rules) (search rules) (search rules)
    c.read.ensures c.read-2.ensures c.read-3.ensures c.read-4.ensures
    c.read-5.ensures c.read-6.ensures c.read-7.ensures c.read-8.ensures
