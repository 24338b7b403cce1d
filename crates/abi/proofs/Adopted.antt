-- A record of a module that was alone: taken over, or refused.
-- Assumes nothing.
use mathlib.Core.{Path.{◌≡◌, refl, sym, ◌∙◌, ap}, Bool.{Bool, true, false, not, ◌&&◌, ◌||◌}, List.List}
use Prim.Native.Nat.{ℕ}
use lib.{IntN.{ℤ, pos}, ListN.length}
use borrow.Author.Tests.{not-true, not-false, eqb-true}
use Rattle.std.specs.Prelude.{if◌then◌else◌}
use Rattle.rules.{specs.Tests.{◌=?◌}, specs.Adopt.{possible_alone, kept_before, adoptable, adopted_cabinet}, specs.declared.Device.Device, specs.declared.Cabinet.Cabinet}
use Rattle.rules.proofs.page.Choice.{and_true}
use Rattle.device_bytes.specs.Encoding.{decode_of}
use Rattle.cabinet_bytes.specs.Encoding.{cabinet_size, encode_cabinet}
use Rattle.abi_keep.specs.Kept.{refusal}
use Rattle.abi.specs.Abi.{taken_over, Adopted}

module _ (old bytes : List ℕ) {d : Device} {p q : Bool} (decoded : d ≡ decode_of old) (possible_is : p ≡ possible_alone d) (before_is : q ≡ kept_before d) where
  tested : ((p || q) && length bytes =? cabinet_size) ≡ taken_over old bytes
  tested =
      (λ i. (possible_is i || before_is i) && length bytes =? cabinet_size) ∙ ap (λ (x : Device). adoptable x && length bytes =? cabinet_size) decoded

  settled : {b : Bool} {number : ℤ} {bytes' : List ℕ} → taken_over old bytes ≡ b → number ≡ (if b then pos 0 else refusal 3)
      → bytes' ≡ (if b then encode_cabinet (adopted_cabinet (decode_of old)) else bytes) → Adopted old bytes number bytes'
  settled e n r =
      record {
        number_is = n ∙ ap (λ (t : Bool). if t then pos 0 else refusal 3) (sym e);
        record_is = r ∙ ap (λ (t : Bool). if t then encode_cabinet (adopted_cabinet (decode_of old)) else bytes) (sym e);
      }

  pub refused : not ((p || q) && length bytes =? cabinet_size) ≡ true → Adopted old bytes (refusal 3) bytes
  refused e = settled {b = false} (sym tested ∙ not-true _ e) refl refl

  module _ (taken : not ((p || q) && length bytes =? cabinet_size) ≡ false) where
    pub whole : length bytes ≡ cabinet_size
    whole = eqb-true (length bytes) cabinet_size (and_true (p || q) (length bytes =? cabinet_size) (not-false _ taken)).1

    pub taken_over_law : {c : Cabinet} {bytes' : List ℕ} → c ≡ adopted_cabinet d → bytes' ≡ encode_cabinet c → Adopted old bytes (pos 0) bytes'
    taken_over_law over written =
        settled {b = true} (sym tested ∙ not-false _ taken) refl (written ∙ ap encode_cabinet (over ∙ ap adopted_cabinet decoded))
