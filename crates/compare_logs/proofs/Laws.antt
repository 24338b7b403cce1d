-- Laws of a part that is lent, and of what is counted of two logs.
-- Assumes nothing.
use mathlib.Core.{Path.{◌≡◌, refl, sym, ◌∙◌, ap}, Bool.{Bool, true, false}, List.{List, [], ◌∷◌}}
use Prim.Native.Nat.{ℕ, zero, suc, min, ◌+◌, ◌-◌, ◌≤◌, ◌<◌}
use native.Mathlib.{Nat.zero-add, Omega.arith}
use borrow.Author.Tests.{le-leb, leb-true, leb-false}
use lib.{ListN.{length, take, drop, length-take, length-drop}, Seq.sets-eq}
use denote.Ref.{Bor}
use Rattle.std.specs.Prelude.{if◌then◌else◌}
use Rattle.rules.{specs.Tests.{◌≤?◌}, specs.Bytes.splice, proofs.page.Places.as_long, proofs.page.Compared.{as_many}}
use Rattle.rules.specs.Compare.{compared, beyond, Difference, leading, differences, left, comparison, entries, list_after}
use Rattle.compare_places.{specs.declared.SoFar.SoFar, specs.SoFar.{none_places, part_counted, part_listed}}
use Rattle.bytes_base.proofs.Parts.{rest}
use Rattle.compare_logs.specs.Part.{Lies}
use Rattle.rules.specs.Compare.{report, list_full}

-- a part as the code's range has it
pub lies : (log : Bor (List ℕ)) (from : ℕ)
    → Lies log from (record { ref_ptr = (log.ref_ptr.0, from + log.ref_ptr.1); now = take (length log.now - from) (drop from log.now) })
lies log from =
    let e : from + log.ref_ptr.1 ≡ log.ref_ptr.1 + from = omega arith in
    record { place = ap (λ (k : ℕ). (log.ref_ptr.0, k)) e; bytes = rest from log.now }

-- a list cut to the length that it has when it is cut
cut_again : (k : ℕ) (log : List ℕ) → take (length (take k log)) log ≡ take k log
cut_again zero log = refl
cut_again (suc k) [] = refl
cut_again (suc k) (x ∷ log) = ap (λ (l : List ℕ). x ∷ l) (cut_again k log)

-- two logs of which n bytes are compared
module _ (first second : List ℕ) (n : ℕ) (common : n ≡ length (compared first second)) where
  pub cut_first : take n first ≡ compared first second
  cut_first = let e : n ≡ length (compared first second) = omega (arith, common) in ap (λ (k : ℕ). take k first) e ∙ cut_again (length second) first

  pub cut_second : take n second ≡ compared second first
  cut_second =
      let e : n ≡ length (compared second first) = omega (arith, common, as_long first second) in
      ap (λ (k : ℕ). take k second) e ∙ cut_again (length first) second

  -- what was counted of them
  module _ {counted : SoFar} (e : counted ≡ part_counted none_places (take n first) (take n second)) where
    of_logs : counted ≡ part_counted none_places (compared first second) (compared second first)
    of_logs = e ∙ ap (λ (l : List ℕ). part_counted none_places l (take n second)) cut_first ∙ ap (part_counted none_places (compared first second)) cut_second

    leading_is : counted.leading ≡ leading first second
    leading_is = ap (λ (s : SoFar). s.leading) of_logs

    differing_is : counted.differing ≡ length (differences first second)
    differing_is = ap (λ (s : SoFar). s.differing) of_logs ∙ zero-add (length (differences first second))

    bytes_left : (length first - n) + (length second - n) ≡ left first second
    bytes_left = go (length second ≤? length first) refl
      where
        long : n ≡ min (length second) (length first)
        long = common ∙ length-take (length second) first

        go : (t : Bool) → (length second ≤? length first) ≡ t → (length first - n) + (length second - n) ≡ left first second
        go true f =
            let h : length second ≤ length first = leb-true (length second) (length first) f in
            let d : length (drop (length second) first) ≡ length first - length second = length-drop (length second) first in
            let is : (length first - n) + (length second - n) ≡ length (drop (length second) first) = omega (arith, long) in
            is ∙ ap (λ (t : Bool). length (if t then beyond first second else beyond second first)) (sym f)
        go false f =
            let h : length first < length second = leb-false (length second) (length first) f in
            let d : length (drop (length first) second) ≡ length second - length first = length-drop (length first) second in
            let is : (length first - n) + (length second - n) ≡ length (drop (length first) second) = omega (arith, long) in
            is ∙ ap (λ (t : Bool). length (if t then beyond first second else beyond second first)) (sym f)

    pub all_listed : (list : List ℕ) {new : List ℕ} → counted.differing ≤ length list → new ≡ part_listed none_places (take n first) (take n second) list
        → (report counted.leading counted.differing ((length first - n) + (length second - n)) ≡ comparison first second (length list))
        × (new ≡ list_after first second list)
    all_listed list h f =
        let ds : List Difference = differences first second in
        let room : 0 + length (entries ds) ≤ length list = omega (arith, as_many ds, differing_is) in
        let yes : (length ds ≤? length list) ≡ true = le-leb (length ds) (length list) (omega (arith, differing_is)) in (
          ap (λ (l : ℕ). report l counted.differing ((length first - n) + (length second - n))) leading_is
              ∙ ap (λ (d : ℕ). report (leading first second) d ((length first - n) + (length second - n))) differing_is
              ∙ ap (λ (b : ℕ). report (leading first second) (length ds) b) bytes_left
              ∙ ap (λ (t : Bool). if t then report (leading first second) (length ds) (left first second) else list_full (length ds)) (sym yes),
          f ∙ ap (λ (l : List ℕ). part_listed none_places l (take n second) list) cut_first
              ∙ ap (λ (l : List ℕ). part_listed none_places (compared first second) l list) cut_second
              ∙ sets-eq (entries ds) list 0 room
              ∙ ap (λ (t : Bool). if t then splice 0 (entries ds) list else list) (sym yes),
        )
