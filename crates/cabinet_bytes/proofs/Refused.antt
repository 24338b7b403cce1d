-- Bytes that are no record decode to a cabinet that is not possible, which R3 refuses; so a possible cabinet came from 288 bytes, of two records.
-- Assumes nothing.
use mathlib.Core.{Path.{◌≡◌, refl, sym, ◌∙◌}, Bool.{Bool, true, false, false≢true}, List.List}
use Prim.Native.Nat.{ℕ}
use lib.ListN.{length}
use Rattle.rules.{specs.Record.{possible_cabinet}, specs.declared.{Cabinet.Cabinet}, proofs.page.Past.both_possible}
use Rattle.device_bytes.specs.Encoding.{record?}
use Rattle.device_bytes.proofs.Refused as device
use Rattle.cabinet_bytes.specs.Encoding.{cabinet_size, module_bytes, cabinet?, cabinet_of, impossible_cabinet, decode_cabinet}
use Rattle.cabinet_bytes.proofs.Fine.{fine}

none_possible : possible_cabinet impossible_cabinet ≡ true → ⊥
unfolding impossible_cabinet
none_possible e = false≢true (sym (device.none_possible 0) ∙ (both_possible impossible_cabinet e).0)

-- what a possible cabinet's bytes are
pub record Possible (s : List ℕ) : Type 0 where
  pub is_cabinet : cabinet? s ≡ true
  pub first : record? (module_bytes 32 s) ≡ true
  pub second : record? (module_bytes 160 s) ≡ true

pub from_possible : (s : List ℕ) → possible_cabinet (decode_cabinet s) ≡ true → Possible s
unfolding decode_cabinet cabinet_of
from_possible s e = go (cabinet? s) refl
  where
    go : (t : Bool) → cabinet? s ≡ t → Possible s
    go true p =
        let c : Cabinet = cabinet_of s in
        let both = both_possible c (rw p at e) in
        record { is_cabinet = p; first = device.from_record c.contexts (module_bytes 32 s) both.0; second = device.from_record c.contexts (module_bytes 160 s) both.1 }
    go false p = absurd (none_possible (rw p at e))

pub possible_whole : (s : List ℕ) → possible_cabinet (decode_cabinet s) ≡ true → length s ≡ cabinet_size
possible_whole s e = (fine s (from_possible s e).is_cabinet).long
