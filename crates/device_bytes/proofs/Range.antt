-- What the types of a record's fields say of it, as the types' laws have it.
-- Assumes nothing.
use mathlib.Core.{Path.{◌≡◌, refl, ap}, List.{List, [], ◌∷◌, map}}
use Prim.Native.Nat.{ℕ, suc}
use lib.ListN.{length}
use mir.Val.{Val}
use denote.Laws.{Is}
use Rattle.rules.{specs.declared.Security.Security, specs.declared.Device.Device}
use Rattle.device_bytes.proofs.Back.{InRange}
use denote.Struct.Laws as LL
use Rattle.rules.specs.contracts.Device as D
use Rattle.rules.proofs.Device.TheLaws as D'
use Rattle.rules.specs.contracts.Transfer as T
use Rattle.rules.proofs.Transfer.TheLaws as T'
use Rattle.rules.specs.contracts.Thresholds as H
use Rattle.rules.proofs.Thresholds.TheLaws as H'
use Rattle.rules.specs.contracts.Reading as R
use Rattle.rules.proofs.Reading.TheLaws as R'
use Rattle.rules.specs.contracts.Security as S
use Rattle.rules.proofs.Security.TheLaws as S'

same_length : (l : List ℕ) → length (map (λ (x : ℕ). x) l) ≡ length l
same_length [] = refl
same_length (x ∷ xs) = ap suc (same_length xs)

pub passphrase_long : (s : Security) (vs : List Val) → Is S.the_row s vs → length s.passphrase ≡ 32
passphrase_long s vs is = (LL.owed S.the_type S'.the_laws s vs is).1.1.1.1.0.1.0.1

pub in_range : (d : Device) (vs : List Val) → Is D.the_row d vs → InRange d
in_range d vs is =
    let o = LL.owed D.the_type D'.the_laws d vs is in
    let t = LL.owed T.the_type T'.the_laws d.transfer _ o.0 in
    let h = LL.owed H.the_type H'.the_laws d.thresholds _ o.1.0 in
    let s = LL.owed S.the_type S'.the_laws d.security _ o.1.1.0 in
    let r = LL.owed R.the_type R'.the_laws d.reading _ o.1.1.1.0 in
    record {
      current = t.1.0.1;
      received = t.1.1.0.1;
      ticks = t.1.1.1.0.1;
      reason = t.1.1.1.1.0.1;
      faulty = t.1.1.1.1.1.0.1;
      running = t.1.1.1.1.1.1.0.1;
      staged = t.1.1.1.1.1.1.1.0.1;
      enable = h.0.1;
      spare = h.1.0.1;
      media = h.1.1.0.1;
      controller = h.1.1.1.0.1;
      read_spare = r.0.1;
      read_media = r.1.0.1;
      read_controller = r.1.1.0.1;
      trips = o.1.1.1.1.0.1;
      attempts = s.1.1.1.0.1;
      passphrase = passphrase_long d.security _ o.1.1.0;
    }
