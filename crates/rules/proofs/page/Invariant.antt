-- Kept by every event: a property of a module's transfer part that its accepted calls, a tick, its power cycle and what the other module does keep. Each invariant is an
-- instance, with one clause for each kind of event; that it holds at the end of any history is proved once (histories/Gate.antt).
-- Assumes nothing.
use Prim.Native.Nat.{ℕ, ◌-◌, ◌≤◌, ◌<◌}
use mathlib.Core.{Path.{◌≡◌, refl, sym, subst}, Bool.{Bool, true}}
use Rattle.rules.specs.{With.{◌with_ticks◌, ◌with_phase◌, ◌with_staged◌, ◌with_reason◌, ◌with_faulty◌}, Fault.reason_number, Record.has_area, Transfer.{TransferCall, received_bytes}}
use Rattle.rules.specs.{declared.Phase.TheVariants.{Verifying, Staged, Failed}, declared.Transfer.Transfer}
use Rattle.rules.proofs.page.Split.{Seen, taken, TransferPart, ◌with_part◌, part_of, part_verdict, part_change, part_after, part_tick, part_power, Doing, Transfers, Others, Powers, Reads, Act, Mine, Theirs, Ticks, does, nexts}
use Rattle.rules.proofs.{page.Faults.{Kept, bad_kept}, page.Facts.{Tick, calm, counting, good, bad, tick_case}}
use Rattle.rules.specs.Refusals.{Verdict}
use Rattle.std.specs.Prelude.{Ok, Err}

-- what holds of a part and of its change by an accepted call holds after the call
pub part_when : (P : TransferPart → Type 0) (v : Verdict) (s : TransferPart) (x : TransferCall) → P s → (v ≡ Ok tt → P (part_change s x)) → P (part_after v s x)
part_when P (Ok tt) s x w f = f refl
part_when P (Err refusal) s x w f = w

-- by the four ways of a tick: nothing is verified; a tick more is left; it was the last, and the image is good; or bad
pub by_tick : (P : TransferPart → Type 0) (s : TransferPart) → P s
    → (s.transfer.phase ≡ Verifying → 1 < s.transfer.ticks → P (s with_part (s.transfer with_ticks (s.transfer.ticks - 1))))
    → ((version : ℕ) → s.transfer.phase ≡ Verifying → P (s with_part (s.transfer with_ticks 0 with_phase Staged with_staged version)))
    → ((reason faulty : ℕ) → Kept reason faulty → s.transfer.phase ≡ Verifying
    → P (s with_part (s.transfer with_ticks 0 with_phase Failed with_reason reason with_faulty faulty)))
    → P (part_tick s)
by_tick P s as_it_is one_less staged failed = go (tick_case s.transfer s.area)
  where
    go : Tick s.transfer s.area → P (part_tick s)
    go (calm n e) = subst (λ (t : Transfer). P (s with_part t)) (sym e) as_it_is
    go (counting p l e) = subst (λ (t : Transfer). P (s with_part t)) (sym e) (one_less p l)
    go (good version p l i e) = subst (λ (t : Transfer). P (s with_part t)) (sym e) (staged version p)
    go (bad {reason} {k} p l i e) = subst (λ (t : Transfer). P (s with_part t)) (sym e) (failed (reason_number reason) k (bad_kept (received_bytes s.transfer s.area) reason k i) p)

-- What the other module's doings leave of a module's part: its transfer; numbers are only given out; and while it has the area, the area and the number stay.
pub record Apart (p q : TransferPart) : Type 0 where
  pub same : q.transfer ≡ p.transfer
  pub more : p.given ≤ q.given
  pub quiet : has_area p.transfer ≡ true → (q.given ≡ p.given) × (q.area ≡ p.area)

pub record Invariant (P : TransferPart → Type 0) : Type 0 where
  pub change : (k : Bool) (s : TransferPart) (a b : Bool) (x : TransferCall) → part_verdict k s a b x ≡ Ok tt → P s → P (part_change s x)
  pub ticked : (s : TransferPart) → P s → P (part_tick s)
  pub powered : (s : TransferPart) → P s → P (part_power s)
  pub elsewhere : (s u : TransferPart) → Apart s u → P s → P u

-- it is kept by what the module itself does
pub keeps_does : {P : TransferPart → Type 0} → Invariant P → (s : Seen) (d : Doing) → P (part_of s) → P (part_of (does s d))
keeps_does {P} i s (Transfers host a b x n answer) p =
    part_when P (part_verdict (taken s) (part_of s) a b x) (part_of s) x p (λ v. i.change (taken s) (part_of s) a b x v p)
keeps_does {P} i s (Others a b x n answer) p = p
keeps_does {P} i s Powers p = i.powered (part_of s) p
keeps_does {P} i s (Reads new) p = p

-- and by every act, where what the other does leaves it apart
pub keeps_next : {P : TransferPart → Type 0} → Invariant P → (s : Seen) → ((d : Doing) → Apart (part_of s) (part_of (nexts s (Theirs d)))) → (f : Act)
    → P (part_of s) → P (part_of (nexts s f))
keeps_next {P} i s apart (Mine d) p = keeps_does {P = P} i s d p
keeps_next {P} i s apart (Theirs d) p = i.elsewhere (part_of s) (part_of (nexts s (Theirs d))) (apart d) p
keeps_next {P} i s apart Ticks p = i.ticked (part_of s) p
