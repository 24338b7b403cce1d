-- One record: what it counts as is what its entry and its play's reply say, and its cell is there.
-- Assumes nothing.
use mathlib.Core.{Path.{◌≡◌, refl, sym, ◌∙◌, ap, subst}, List.List}
use Prim.Native.Nat.{ℕ}
use Rattle.rules.{specs.Record.Whole, specs.Log.{entry_of, request_in}, specs.Report.{counted_as, record_counted}}
use Rattle.rules.{specs.declared.Reply.Reply, specs.declared.Entry.Entry, specs.declared.Entry.TheVariants.{Call, Tick, Power, Health, Bad}, proofs.page.Sums.{hosts_of, good_hosts, status_most}}
use Rattle.replay_step.specs.Stepped.{entry_reply, record_reply}
use Rattle.report_tally.specs.Tally.{counted_by, HasCell}

of_entry : (w : Whole) (entry : Entry) (request : List ℕ) → counted_by entry (entry_reply w entry request) ≡ counted_as w entry request
of_entry w (Call named host revision index size) request = refl
of_entry w Tick request = refl
of_entry w (Power named) request = refl
of_entry w (Health named new) request = refl
of_entry w Bad request = refl

entry_cell : (w : Whole) (entry : Entry) (request : List ℕ) → hosts_of entry → HasCell entry (entry_reply w entry request)
unfolding hosts_of
entry_cell w (Call named host revision index size) request g = (g.least, g.most, status_most w named revision index request)
entry_cell w Tick request g = tt
entry_cell w (Power named) request g = tt
entry_cell w (Health named new) request g = tt
entry_cell w Bad request g = tt

module _ (w : Whole) (bytes : List ℕ) {entry : Entry} {reply : Reply} (decoded : entry ≡ entry_of bytes) (played : reply ≡ record_reply w bytes) where
  pub counted_is : counted_by entry reply ≡ record_counted w bytes
  counted_is =
      ap (λ (e : Entry). counted_by e reply) decoded ∙ ap (counted_by (entry_of bytes)) played ∙ of_entry w (entry_of bytes) (request_in bytes)

  pub has_cell : HasCell entry reply
  has_cell =
      subst (λ (e : Entry). HasCell e reply) (sym decoded)
      (subst (HasCell (entry_of bytes)) (sym played) (entry_cell w (entry_of bytes) (request_in bytes) (good_hosts bytes)))
