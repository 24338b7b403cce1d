-- What it says of a record that it is a call: where its fields stand, and that its request fits it.
-- Assumes nothing.
use mathlib.Core.{Path.{◌≡◌, refl, ◌∙◌, ap}, Bool.{Bool, true, false, not, ◌&&◌}, List.List}
use Prim.Native.Nat.{ℕ, ◌+◌, ◌-◌, ◌≤◌}
use native.Mathlib.{Nat.add-sub_cancel_left, Omega.arith}
use lib.ListN.{length, take, drop}
use borrow.Author.Tests.{eqb-true, leb-true}
use Rattle.std.specs.Prelude.{if◌then◌else◌}
use Rattle.rules.{specs.Tests.{◌=?◌, ◌≤?◌}, specs.Log.{entry_of, kind_in, named_in, host_in, revision_in, function_in, length_in, request_in, good_call, padded, bare, good_power, good_reading}}
use Rattle.rules.{specs.declared.Entry.Entry, specs.declared.Entry.TheVariants.{Call, Tick, Power, Health, Bad}, proofs.page.Choice.and_true}
use Rattle.log_call.specs.Call.{call_entry}
use Rattle.log_record.specs.Reading.{reading_entry}

pub record IsCall (bytes : List ℕ) (named host revision function size : ℕ) : Type 0 where
  pub long : length bytes ≡ 544
  pub named_is : named ≡ named_in bytes
  pub host_is : host ≡ host_in bytes
  pub revision_is : revision ≡ revision_in bytes
  pub function_is : function ≡ function_in bytes
  pub size_is : size ≡ length_in bytes
  pub most : size ≤ 536

abbrev call? : Entry → ℕ
call? (Call named host revision function size) = 1
call? Tick = 0
call? (Power named) = 0
call? (Health named new) = 0
call? Bad = 0

-- a good call's request has at most 536 bytes
length_most : (bytes : List ℕ) → good_call bytes ≡ true → length_in bytes ≤ 536
length_most bytes good =
    let short = (and_true ((1 ≤? host_in bytes) && (host_in bytes ≤? 4) && (named_in bytes ≤? 1) && (length_in bytes ≤? 536)) (padded bytes) good).0 in
    leb-true (length_in bytes) 536 (and_true ((1 ≤? host_in bytes) && (host_in bytes ≤? 4) && (named_in bytes ≤? 1)) (length_in bytes ≤? 536) short).1

module _ (bytes : List ℕ) {named host revision function size : ℕ} where
  as_read : length bytes ≡ 544 → good_call bytes ≡ true → call_entry bytes ≡ Call named host revision function size → IsCall bytes named host revision function size
  as_read long good e =
      let size_read : size ≡ length_in bytes = cc in
      let most : length_in bytes ≤ 536 = length_most bytes good in
      record { long = long; named_is = cc; host_is = cc; revision_is = cc; function_is = cc; size_is = size_read; most = omega (arith, size_read, most) }

  pub is_call : entry_of bytes ≡ Call named host revision function size → IsCall bytes named host revision function size
  unfolding entry_of
  is_call = go (length bytes =? 544) refl (kind_in bytes =? 1 && good_call bytes) refl (kind_in bytes =? 2 && bare bytes) (kind_in bytes =? 3 && good_power bytes) (kind_in bytes =? 4 && good_reading bytes)
    where
      go : (whole : Bool) → (length bytes =? 544) ≡ whole → (call : Bool) → (kind_in bytes =? 1 && good_call bytes) ≡ call → (tick power reading : Bool)
          → (if not whole then Bad else if call then call_entry bytes else if tick then Tick else if power then Power (named_in bytes) else if reading then reading_entry bytes else Bad) ≡ Call named host revision function size
          → IsCall bytes named host revision function size
      go true w true g tick power reading e = as_read (eqb-true (length bytes) 544 w) (and_true (kind_in bytes =? 1) (good_call bytes) g).1 e
      go true w false g true power reading e = absurd (omega (arith, ap call? e))
      go true w false g false true reading e = absurd (omega (arith, ap call? e))
      go true w false g false false true e = absurd (omega (arith, ap call? e))
      go true w false g false false false e = absurd (omega (arith, ap call? e))
      go false w call g tick power reading e = absurd (omega (arith, ap call? e))

-- the part of the record that the request is
pub request_part : (bytes : List ℕ) {size : ℕ} → size ≡ length_in bytes → take (8 + size - 8) (drop 8 bytes) ≡ request_in bytes
request_part bytes {size} e = ap (λ (n : ℕ). take n (drop 8 bytes)) (add-sub_cancel_left 8 size ∙ e)
