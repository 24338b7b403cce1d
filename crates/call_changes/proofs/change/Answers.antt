-- `call_changes::change` meets its contract. Each arm changes the part that its function works on.
-- Assumes nothing.
use mathlib.Core.{Path.{◌≡◌, ◌∙◌, ap}, Bool.Bool, List.List}
use Prim.Native.Nat.{ℕ}
use native.Mathlib.Omega.{arith}
use Rattle.bytes_base.proofs.Parts.{rest}
use Rattle.rules.{specs.Security.set_passphrase_change, specs.Record.module_of, specs.With.{◌with_transfer◌, ◌with_security◌}}
use Rattle.rules.{specs.declared.Device.Device, specs.declared.Transfer.Transfer, specs.declared.Security.Security}
use Rattle.rules.proofs.{page.Told.{passed, changed}, page.Accepted.start_left}
use Rattle.call_changes.specs.declared.Changed.{Changed}
use Rattle.call_changes.proofs.change.Goals as goal

abbrev changed_to : Device → ℕ → Changed
changed_to device given = record { device = device; given = given }

-- what a function gave back, with the area that it left
as_module : (area : List ℕ) (taken : Bool) {x y : Changed} → x ≡ y → module_of x.device area x.given taken ≡ module_of y.device area y.given taken
as_module area taken e = ap (λ (x : Changed). module_of x.device area x.given taken) e

-- a Start that is accepted: a number is left to give
pub start-requires : goal.start-requires
start-requires c =
    let most = c.ranges.given.fits in
    let told = passed (module_of c.args.d c.args.area.now c.args.given c.requires.acceptable.taken) c.args.asked.now.revision c.args.asked.now.request.now c.in-Start.is c.requires.acceptable.passed in
    omega (arith, start_left c.args.d.transfer c.args.given c.requires.acceptable.taken told)

pub returns-in-Send : goal.returns-in-Send
returns-in-Send c = λ taken.
    let a = c.args in
    let m = module_of a.d a.area.now a.given taken in
    changed m a.asked.now.revision a.asked.now.request.now c.in-Send.is
    (let now = c.with_transfer-in-Send.ensures ∙ ap (λ (x : Transfer). changed_to (a.d with_transfer x) a.given) (c.send.ensures.transfer_is a.given) in
    λ i. module_of (now i).device (c.send.ensures.area_is i) (now i).given taken)

pub returns-in-Finish : goal.returns-in-Finish
returns-in-Finish c = λ taken.
    let a = c.args in
    let m = module_of a.d a.area.now a.given taken in
    changed m a.asked.now.revision a.asked.now.request.now c.in-Finish.is
    (as_module a.area.now taken (c.with_transfer-in-Finish.ensures ∙ ap (λ (x : Transfer). changed_to (a.d with_transfer x) a.given) (c.finish.ensures a.given)))

pub returns-in-SetPassphrase : goal.returns-in-SetPassphrase
returns-in-SetPassphrase c = λ taken.
    let a = c.args in
    let m = module_of a.d a.area.now a.given taken in
    changed m a.asked.now.revision a.asked.now.request.now c.in-SetPassphrase.is
    (as_module a.area.now taken (c.with_security.ensures ∙ ap (λ (x : Security). changed_to (a.d with_security x) a.given) (c.set_passphrase.ensures ∙ ap (set_passphrase_change a.d.security) (rest 32 a.asked.now.request.now))))
