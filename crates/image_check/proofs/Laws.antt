-- Laws of the walk over the records, and of what the tests together say.
-- Assumes nothing.
use mathlib.Core.{Path.{◌≡◌, refl, sym, ◌∙◌, ap, subst}, Bool.{Bool, true, false, ◌&&◌}, List.List}
use Prim.Native.Nat.{ℕ, zero, suc, ◌+◌, ◌-◌, ◌*◌, ◌/◌, ◌≤◌, ◌<◌}
use native.Mathlib.{Omega.arith}
use lib.{ListN.{length, take, drop, length-drop}, Seq.{drop-drop, take-take, length-take-le}}
use Rattle.std.proofs.lemmas.List.{drop-take}
use Rattle.rules.{specs.Image.{good_record, good_size, version_of}, specs.Fault.{Fault, none, ◌of_record◌, record_fault, ◌or_else◌, records_fault, first_fault, judged, image_of, image_record}}
use Rattle.std.specs.Prelude.{if◌then◌else◌}
use Rattle.rules.{specs.Tests.{◌=?◌}, specs.declared.Reason.TheVariants.Size}
use Rattle.rules.proofs.page.Images.{Sized, good_size_law}
use borrow.Author.Tests.{eq-eqb, le-leb}
use Rattle.rules.proofs.page.Faults.{good_clean, bad_unclean, zero_unclean}
use Rattle.rules.{specs.Bytes.AreBytes, proofs.page.Le.{drop_bytes, take_bytes}, proofs.page.Choice.and_true}
use Rattle.image_record.{specs.Front.{front_of, good_behind}, proofs.Fronts.front_tests}
use Rattle.image_check.specs.Walk.{first_bad, Left}
use Rattle.rules.specs.Fault.{bad_image}
use Rattle.std.specs.Prelude.{Ok}

-- the records after number i begin where it ends
next : (i : ℕ) (bytes : List ℕ) → drop 128 (drop (i * 128) bytes) ≡ drop ((i + 1) * 128) bytes
next i bytes =
    let place : i * 128 + 128 ≡ (i + 1) * 128 = omega arith in
    drop-drop 128 (i * 128) bytes ∙ ap (λ (at : ℕ). drop at bytes) place

-- one record of the walk, and of the fault that is looked for
bad_on : (records i n version : ℕ) (bytes : List ℕ) → first_bad (suc records) i n version (drop (i * 128) bytes)
    ≡ (if good_record i n version (image_record i bytes) then first_bad records (i + 1) n version (drop ((i + 1) * 128) bytes) else i)
unfolding first_bad
bad_on records i n version bytes = rw (next i bytes)

fault_on : (records i n version : ℕ) (bytes : List ℕ) → records_fault (suc records) i n version (drop (i * 128) bytes)
    ≡ (record_fault i n version (image_record i bytes) or_else records_fault records (i + 1) n version (drop ((i + 1) * 128) bytes))
unfolding records_fault
fault_on records i n version bytes = rw (next i bytes)

-- the walk begins with all records
pub all_left : (n version : ℕ) (bytes : List ℕ) → length bytes ≡ n * 128 → Left n version bytes bytes
all_left n version bytes long =
    let all : length bytes / 128 ≡ n = omega (arith, long) in
    let first : n - length bytes / 128 ≡ 0 = omega (arith, all) in
    record {
      whole = omega (arith, long);
      few = omega (arith, all);
      part = ap (λ (i : ℕ). drop (i * 128) bytes) (sym first);
      same = λ k. first_bad (all k) (first k) n version bytes;
    }

-- one record split off from what is left: it is good, and the walk goes on behind it; or it is not, and the walk ends there
module _ {n version : ℕ} {left bytes record' after : List ℕ} (l : Left n version left bytes)
    (split : (record' ≡ take 128 left) × (after ≡ drop 128 left) × (length after + 128 ≡ length left))
  where
    abbrev number : ℕ
    number = n - length left / 128

    one_more : length left / 128 ≡ suc (length after / 128)
    one_more = omega (arith, split.2)

    pub is_one : number < n
    is_one = omega (arith, one_more, l.few)

    pub next_number : number + 1 ≡ n - length after / 128
    next_number = omega (arith, one_more, l.few)

    here : {good : Bool} → good_record number n version record' ≡ good
        → (if good then first_bad (length after / 128) (number + 1) n version after else number) ≡ first_bad n 0 n version bytes
    unfolding first_bad
    here {good} e =
        let one : first_bad (length left / 128) number n version left ≡ first_bad (suc (length after / 128)) number n version left =
        ap (λ (k : ℕ). first_bad k number n version left) one_more in
        (λ k. if sym e k then first_bad (length after / 128) (number + 1) n version (split.1 k) else number)
        ∙ ap (λ (r : List ℕ). if good_record number n version r then first_bad (length after / 128) (number + 1) n version (drop 128 left) else number) split.0
        ∙ sym one ∙ l.same

    pub goes_on : true ≡ good_record number n version record' → Left n version after bytes
    goes_on good =
        let next = next_number in
        let place : number * 128 + 128 ≡ (n - length after / 128) * 128 = omega (arith, next) in
        record {
          whole = omega (arith, l.whole, split.2);
          few = omega (arith, one_more, l.few);
          part = split.1 ∙ ap (drop 128) l.part ∙ drop-drop 128 (number * 128) bytes ∙ ap (λ (at : ℕ). drop at bytes) place;
          same = ap (λ (k : ℕ). first_bad (length after / 128) k n version after) (sym next) ∙ here (sym good);
        }

    pub ends_here : false ≡ good_record number n version record' → number ≡ first_bad n 0 n version bytes
    ends_here bad = here (sym bad)

    pub its_record : record' ≡ image_record number bytes
    its_record = split.0 ∙ ap (take 128) l.part

-- where no record is left, none is bad
pub none_left : {n version : ℕ} {left bytes : List ℕ} → Left n version left bytes → length left < 128 → first_bad n 0 n version bytes ≡ n
unfolding first_bad
none_left {n} {version} {left} l short =
    let no_records : length left / 128 ≡ 0 = omega (arith, short) in
    let all : n - 0 ≡ n = omega arith in
    sym l.same ∙ (λ k. first_bad (no_records k) (n - no_records k) n version left) ∙ all

-- two records split off at once are those that are split off one after the other
pub halves : (left : List ℕ) {two after first second : List ℕ} → (two ≡ take 256 left) × (after ≡ drop 256 left) × (length after + 256 ≡ length left)
    → first ≡ take 128 two → second ≡ drop (length two - 128) two
    → ((first ≡ take 128 left) × (drop 128 left ≡ drop 128 left) × (length (drop 128 left) + 128 ≡ length left))
    × ((second ≡ take 128 (drop 128 left)) × (after ≡ drop 128 (drop 128 left)) × (length after + 128 ≡ length (drop 128 left)))
halves left {two} split first_is second_is =
    let long : length two ≡ 256 = ap length split.0 ∙ length-take-le 256 left (omega (arith, split.2)) in
    let middle : length two - 128 ≡ 128 = omega (arith, long) in
    let behind = length-drop 128 left in (
      (first_is ∙ ap (take 128) split.0 ∙ take-take 128 256 left (omega arith), refl, omega (arith, behind, split.2)),
      (second_is ∙ (λ k. drop (middle k) (split.0 k)) ∙ drop-take 128 128 left, split.1 ∙ sym (drop-drop 128 128 left), omega (arith, behind, split.2)),
    )

-- two records split off that were tested by their fronts: the walk goes on behind both
module _ {n version front : ℕ} {left bytes first behind second after : List ℕ} (l : Left n version left bytes) (few : n < 65536) (are : AreBytes bytes)
    (front_is : front ≡ front_of (n - length left / 128) n version)
    (split : (first ≡ take 128 left) × (behind ≡ drop 128 left) × (length behind + 128 ≡ length left))
    (again : (second ≡ take 128 behind) × (after ≡ drop 128 behind) × (length after + 128 ≡ length behind))
  where
    by_front : (i at_front : ℕ) (part whole : List ℕ) → AreBytes part → part ≡ take 128 whole → 128 ≤ length whole → i < n → at_front ≡ front_of i n version
        → good_behind at_front version part ≡ true → true ≡ good_record i n version part
    by_front i at_front part whole part_are part_is some one is good =
        let long : length part ≡ 128 = ap length part_is ∙ length-take-le 128 whole some in
        sym good ∙ ap (λ (f : ℕ). good_behind f version part) is
        ∙ front_tests i n version part part_are (omega (arith, long)) (omega (arith, one, few)) few

    record_bytes : (i : ℕ) {part : List ℕ} → part ≡ image_record i bytes → AreBytes part
    record_bytes i e = subst AreBytes (sym e) (take_bytes 128 (drop (i * 128) bytes) (drop_bytes (i * 128) bytes are))

    pub two_go_on : true ≡ (good_behind front version first && good_behind (front + 1) version second)
        → Left n version after bytes × (front + 2 ≡ front_of (n - length after / 128) n version)
    two_go_on good =
        let both = and_true (good_behind front version first) _ (sym good) in
        let one = goes_on l split (by_front _ _ _ _ (record_bytes _ (its_record l split)) split.0 (omega (arith, split.2)) (is_one l split) front_is both.0) in
        let next : front + 1 ≡ front_of (n - length behind / 128) n version = omega (arith, front_is, next_number l split) in
        let two = goes_on one again (by_front _ _ _ _ (record_bytes _ (its_record one again)) again.0 (omega (arith, again.2)) (is_one one again) next both.1) in
        (two, omega (arith, next, next_number one again))

-- where the walk of an image whose version is not zero stops: past its last record, and then there is no fault; or at one whose fault is the first
data Stopped (n version k : ℕ) (bytes : List ℕ) (fault : Fault) : Type 0 where
  past : n ≤ k → fault ≡ none → Stopped n version k bytes fault
  at_record : k < n → (record_fault k n version (image_record k bytes) ≡ none → ⊥) → fault ≡ record_fault k n version (image_record k bytes) → Stopped n version k bytes fault

stopped_as : {n version k l : ℕ} {bytes : List ℕ} {f g : Fault} → k ≡ l → f ≡ g → Stopped n version k bytes f → Stopped n version l bytes g
stopped_as {n} {version} {k} {l} {bytes} {f} {g} e q s =
    subst (λ (x : ℕ). Stopped n version x bytes g) e (subst (λ (x : Fault). Stopped n version k bytes x) q s)

or_first : (f g : Fault) → (f ≡ none → ⊥) → (f or_else g) ≡ f
or_first none g h = absurd (h refl)
or_first (reason of_record i) g h = refl

module _ (n version : ℕ) (bytes : List ℕ) (image : version ≡ version_of bytes) where
  stops : (version =? 0) ≡ false → (records i : ℕ) → i + records ≡ n
      → Stopped n version (first_bad records i n version (drop (i * 128) bytes)) bytes (records_fault records i n version (drop (i * 128) bytes))
  unfolding first_bad records_fault
  stops nonzero zero i h = past (omega (arith, h)) refl
  stops nonzero (suc records) i h = go (good_record i n version (image_record i bytes)) refl (stops nonzero records (i + 1) (omega (arith, h)))
    where
      is_nonzero : (version_of bytes =? 0) ≡ false
      is_nonzero = rw (← image) nonzero

      go : (good : Bool) → good_record i n version (image_record i bytes) ≡ good
          → Stopped n version (first_bad records (i + 1) n version (drop ((i + 1) * 128) bytes)) bytes (records_fault records (i + 1) n version (drop ((i + 1) * 128) bytes))
          → Stopped n version (first_bad (suc records) i n version (drop (i * 128) bytes)) bytes (records_fault (suc records) i n version (drop (i * 128) bytes))
      go true e later =
          let clean : record_fault i n version (image_record i bytes) ≡ none = rw image (good_clean i n bytes is_nonzero (rw (← image) e)) in
          stopped_as (sym (bad_on records i n version bytes ∙ rw e)) (sym (fault_on records i n version bytes ∙ rw clean)) later
      go false e later =
          let faulty : record_fault i n version (image_record i bytes) ≡ none → ⊥ = rw image (bad_unclean i n bytes is_nonzero (rw (← image) e)) in
          stopped_as (sym (bad_on records i n version bytes ∙ rw e)) (sym (fault_on records i n version bytes ∙ or_first _ _ faulty))
          (at_record (omega (arith, h)) faulty refl)

-- bytes of another size are bad for that
pub bad_size : (bytes : List ℕ) → good_size bytes ≡ false → bad_image Size 0 ≡ image_of bytes
unfolding first_fault image_of
bad_size bytes size = rw size

-- and so they are where they are not 1 to 128 whole records
pub other_size : (bytes : List ℕ) → (Sized (length bytes) → ⊥) → bad_image Size 0 ≡ image_of bytes
other_size bytes other = go (good_size bytes) refl
  where
    go : (size : Bool) → good_size bytes ≡ size → bad_image Size 0 ≡ image_of bytes
    go true e = absurd (other (good_size_law bytes e))
    go false e = bad_size bytes e

pub right_size : (bytes : List ℕ) → 128 ≤ length bytes → length bytes ≡ length bytes / 128 * 128 → length bytes / 128 ≤ 128 → good_size bytes ≡ true
right_size bytes enough whole few =
    let some : 1 ≤ length bytes / 128 = omega (arith, enough) in
    rw (eq-eqb _ _ whole, le-leb 1 (length bytes / 128) some, le-leb (length bytes / 128) 128 few)

-- bytes of a good size are what their records are
module _ (bytes : List ℕ) {version : ℕ} (size : good_size bytes ≡ true) (first : version ≡ version_of bytes) where
  abbrev n : ℕ
  n = length bytes / 128

  by_fault : {fault : Fault} → records_fault n 0 n version bytes ≡ fault → judged fault version ≡ image_of bytes
  unfolding first_fault image_of
  by_fault e = rw (size, ← first, e)

  -- where the version is zero, the first record has a fault, and it decides
  module _ {record' : List ℕ} (it_is : record' ≡ take 128 bytes) (zero? : (version =? 0) ≡ true) where
    pub zero_has_fault : record_fault 0 n version record' ≡ none → ⊥
    zero_has_fault = rw (it_is, first) (zero_unclean n bytes (rw (← first) zero?))

    pub zero_decides : 1 ≤ n → judged (record_fault 0 n version record') version ≡ image_of bytes
    zero_decides some =
        let count : n ≡ suc (n - 1) = omega (arith, some) in
        let decides = or_first _ (records_fault (n - 1) 1 n version (drop 128 bytes)) zero_has_fault in
        let whole : records_fault n 0 n version bytes ≡ (record_fault 0 n version record' or_else records_fault (n - 1) 1 n version (drop 128 bytes)) =
        ap (λ (k : ℕ). records_fault k 0 n version bytes) count ∙ fault_on (n - 1) 0 n version bytes
        ∙ ap (λ (r : List ℕ). record_fault 0 n version r or_else records_fault (n - 1) 1 n version (drop 128 bytes)) (sym it_is) in
        by_fault (whole ∙ decides)

  -- where it is not, the walk decides
  module _ (nonzero : (version =? 0) ≡ false) {k : ℕ} (walked : k ≡ first_bad n 0 n version bytes) where
    stop : Stopped n version k bytes (records_fault n 0 n version bytes)
    stop = stopped_as (sym walked) refl (stops n version bytes first nonzero n 0 (omega arith))

    pub walk_has_fault : k < n → {record' : List ℕ} → record' ≡ image_record k bytes → record_fault k n version record' ≡ none → ⊥
    walk_has_fault l e = rw e (go stop)
      where
        go : Stopped n version k bytes (records_fault n 0 n version bytes) → record_fault k n version (image_record k bytes) ≡ none → ⊥
        go (past h e) = absurd (omega (arith, h, l))
        go (at_record h f e) = f

    pub walk_decides : k < n → {record' : List ℕ} → record' ≡ image_record k bytes → judged (record_fault k n version record') version ≡ image_of bytes
    walk_decides l e = ap (λ (r : List ℕ). judged (record_fault k n version r) version) e ∙ by_fault (go stop)
      where
        go : Stopped n version k bytes (records_fault n 0 n version bytes) → records_fault n 0 n version bytes ≡ record_fault k n version (image_record k bytes)
        go (past h e) = absurd (omega (arith, h, l))
        go (at_record h f e) = e

    pub all_good : n ≤ k → Ok version ≡ image_of bytes
    all_good l = by_fault (go stop)
      where
        go : Stopped n version k bytes (records_fault n 0 n version bytes) → records_fault n 0 n version bytes ≡ none
        go (past h e) = e
        go (at_record h f e) = absurd (omega (arith, h, l))
