-- Document 02, T-02: "What it writes is a good image, and reading the payload back gives the payload with its padding." And the other way round.
-- Assumes nothing.
use mathlib.Core.{Path.{◌≡◌, refl, sym, ◌∙◌, ap}, Bool.{Bool, true, false, not, ◌&&◌}, List.{List, [], ◌∷◌, ◌++◌, append_assoc, append-nil}}
use Prim.Native.Nat.{ℕ, zero, suc, ◌≤◌, ◌<◌, ◌+◌, ◌-◌, ◌*◌, ◌^◌, ◌/◌}
use native.Mathlib.Omega.{arith}
use lib.{Dec.{leb, eqb}, ListN.{length, take, drop, length-append, length-drop, length-replicate, replicate-append-replicate, take-append-drop, drop_of_length-le}}
use lib.Seq.{take-append-le, drop-append-le, drop-drop, drop_at, take_at, take_all, length-take-le}
use borrow.Author.Tests.{leb-true, leb-false, eqb-true, eqb-false, eq-eqb, ne_eqb, le-leb, lt-ltb, le-ltb, ltb-false}
use Rattle.std.specs.Prelude.{if◌then◌else◌}
use Rattle.rules.specs.{Tests.{◌<?◌, ◌=?◌}, Bytes.{zeros, AreBytes}}
use Rattle.rules.specs.Image.{most_records, payload_field, bytes_in, records_of, good_record, good_records, good_size, version_of, good_image}
use Rattle.rules.specs.Fault.{image_of}
use Rattle.rules.specs.Made.{parts_in, parts_of, first_part, made_record, made_records, made_image, carried, payload_of, making_of, reading_if, reading_of, MadeWell, PartsOf, Told, RequestT02}
use Rattle.rules.proofs.page.Choice.{and_true}
use Rattle.rules.proofs.page.Faults.{is_good}
use Rattle.rules.proofs.page.Le.{take_bytes, drop_bytes, append_bytes, zeros_bytes}
use Rattle.rules.proofs.page.Records.{made_long, made_good, made_bytes, version_in, part_in, record_again}
use Rattle.rules.specs.Fault.{Image}
use Rattle.rules.specs.declared.NotMade.TheVariants.{VersionZero, PayloadOver128Records, OutputTooShort}
use Rattle.rules.specs.declared.NotRead.TheVariants.{OutputTooShort as ReadTooShort}
use Rattle.std.specs.Prelude.{Ok, Err}

-- a good size is 1 to 128 records
pub record Sized (received : ℕ) : Type 0 where
  pub whole : received ≡ received / 128 * 128
  pub some : 1 ≤ received / 128
  pub few : received / 128 ≤ 128

pub good_size_law : (bytes : List ℕ) → good_size bytes ≡ true → Sized (length bytes)
good_size_law bytes e =
    let received = length bytes in
    let n = received / 128 in
    let ends = and_true (eqb received (n * 128) && leb 1 n) (leb n 128) e in
    let starts = and_true (eqb received (n * 128)) (leb 1 n) ends.0 in
    record { whole = eqb-true received (n * 128) starts.0; some = leb-true 1 n starts.1; few = leb-true n 128 ends.1 }

-- how many records a payload makes: enough for its bytes, and at least one
pub record Cut (size parts : ℕ) : Type 0 where
  pub some : 1 ≤ parts
  pub enough : size ≤ parts * 112
  pub no_more : parts ≤ 1 + (size - 1) / 112

pub cut : (payload : List ℕ) → Cut (length payload) (parts_of payload)
cut payload = go (length payload =? 0) refl
  where
    go : (none : Bool) → (length payload =? 0) ≡ none → Cut (length payload) (if none then 1 else parts_in (length payload))
    go true e =
        let empty : length payload ≡ 0 = eqb-true (length payload) 0 e in
        record { some = omega arith; enough = omega (arith, empty); no_more = omega arith }
    go false e =
        let full : length payload ≡ 0 → ⊥ = eqb-false (length payload) 0 e in
        record { some = omega (arith, full); enough = omega (arith, full); no_more = omega (arith, full) }

pub over_128_records : (payload : List ℕ) → (most_records <? parts_of payload) ≡ (14336 <? length payload)
over_128_records payload = go (leb (length payload) 14336) refl
  where
    go : (fits : Bool) → leb (length payload) 14336 ≡ fits → (most_records <? parts_of payload) ≡ (14336 <? length payload)
    go true e =
        let fits : length payload ≤ 14336 = leb-true (length payload) 14336 e in
        le-ltb 128 (parts_of payload) (omega (arith, fits, (cut payload).no_more)) ∙ sym (le-ltb 14336 (length payload) fits)
    go false e =
        let long : 14336 < length payload = leb-false (length payload) 14336 e in
        lt-ltb 128 (parts_of payload) (omega (arith, long, (cut payload).enough)) ∙ sym (lt-ltb 14336 (length payload) long)

-- a part has 112 bytes
pub part_whole : (payload : List ℕ) → length (first_part payload) ≡ 112
part_whole payload =
    let part : List ℕ = take 112 payload in
    let short : length part ≤ 112 = take_short 112 payload in
    length-append part (zeros (112 - length part)) ∙ ap (λ (k : ℕ). length part + k) (length-replicate (112 - length part) 0) ∙ omega (arith, short)
  where
    take_short : (k : ℕ) (l : List ℕ) → length (take k l) ≤ k
    take_short zero l = omega arith
    take_short (suc k) [] = omega arith
    take_short (suc k) (x ∷ l) = omega (arith, take_short k l)

-- so many records have 128 bytes each
pub records_long : (records i n version : ℕ) (payload : List ℕ) → length (made_records records i n version payload) ≡ records * 128
unfolding made_records
records_long zero i n version payload = refl
records_long (suc records) i n version payload =
    length-append (made_record i n version (first_part payload)) (made_records records (i + 1) n version (drop 112 payload))
    ∙ omega (arith, made_long i n version (first_part payload) (part_whole payload), records_long records (i + 1) n version (drop 112 payload))

-- the first so many records and the next one
pub one_record_more : (records i n version : ℕ) (payload : List ℕ)
    → made_records (suc records) i n version payload
    ≡ made_records records i n version payload ++ made_record (i + records) n version (first_part (drop (records * 112) payload))
unfolding made_records
one_record_more zero i n version payload =
    append-nil (made_record i n version (first_part payload)) ∙ ap (λ (k : ℕ). made_record k n version (first_part payload)) (omega arith)
one_record_more (suc records) i n version payload =
    let number : i + 1 + records ≡ i + suc records = omega arith in
    let place : 112 + records * 112 ≡ suc records * 112 = omega arith in
    let later : made_record (i + 1 + records) n version (first_part (drop (records * 112) (drop 112 payload)))
    ≡ made_record (i + suc records) n version (first_part (drop (suc records * 112) payload)) =
    ap (λ (l : List ℕ). made_record (i + 1 + records) n version (first_part l)) (drop-drop (records * 112) 112 payload)
    ∙ (λ k. made_record (number k) n version (first_part (drop (place k) payload))) in
    ap (λ (l : List ℕ). made_record i n version (first_part payload) ++ l) (one_record_more records (i + 1) n version (drop 112 payload))
    ∙ sym (append_assoc (made_record i n version (first_part payload)) (made_records records (i + 1) n version (drop 112 payload)) _)
    ∙ ap (λ (l : List ℕ). made_record i n version (first_part payload) ++ made_records records (i + 1) n version (drop 112 payload) ++ l) later

-- what is made is good, record by record
records_good : (records i n version : ℕ) (payload : List ℕ) → i + records ≤ n → n ≤ 128 → version < 256 ^ 8
    → good_records records i n version (made_records records i n version payload) ≡ true
unfolding made_records good_records
records_good zero i n version payload h few fits = refl
records_good (suc records) i n version payload h few fits =
    let part : List ℕ = first_part payload in
    let long = made_long i n version part (part_whole payload) in
    let rest : List ℕ = made_records records (i + 1) n version (drop 112 payload) in
    rw (
      take_at (made_record i n version part) rest 128 long,
      drop_at (made_record i n version part) rest 128 long,
      made_good i n version part (part_whole payload) (omega arith) (omega arith) fits,
    )
    (records_good records (i + 1) n version (drop 112 payload) (omega arith) few fits)

-- the version of record 0 is the image's
version_of_made : (m n version : ℕ) (payload : List ℕ) → version < 256 ^ 8 → version_of (made_records (suc m) 0 n version payload) ≡ version
unfolding made_records
version_of_made m n version payload fits =
    version_in 0 n version (first_part payload) (part_whole payload) (made_records m (0 + 1) n version (drop 112 payload)) fits

-- and so the image
image_good : (n version : ℕ) (payload : List ℕ) → 1 ≤ n → n ≤ 128 → 1 ≤ version → version < 256 ^ 8
    → image_of (made_records n 0 n version payload) ≡ Ok version
unfolding good_image
image_good zero version payload some few one fits = absurd (omega (arith, some))
image_good (suc m) version payload some few one fits =
    (is_good image version).1 (rw (size, version_is, ne_eqb version 0 (λ e. omega arith), records) refl, sym version_is)
  where
    image : List ℕ
    image = made_records (suc m) 0 (suc m) version payload

    long : length image ≡ suc m * 128
    long = records_long (suc m) 0 (suc m) version payload

    count : records_of image ≡ suc m
    count = ap (λ (k : ℕ). k / 128) long ∙ omega arith

    size : good_size image ≡ true
    size =
        rw (
          eq-eqb (length image) (records_of image * 128) (long ∙ ap (λ (k : ℕ). k * 128) (sym count)),
          le-leb 1 (records_of image) (omega (arith, count)),
          le-leb (records_of image) 128 (omega (arith, count)),
        ) refl

    version_is : version_of image ≡ version
    version_is = version_of_made m (suc m) version payload fits

    records : good_records (records_of image) 0 (records_of image) version image ≡ true
    records = rw count (records_good (suc m) 0 (suc m) version payload (omega arith) few fits)

-- what is cut off and padded, and the rest with its padding, are the payload with its padding
padded_whole : (records : ℕ) (payload : List ℕ)
    → first_part payload ++ (drop 112 payload ++ zeros (records * 112 - length (drop 112 payload))) ≡ payload ++ zeros (suc records * 112 - length payload)
padded_whole records payload = go (leb 112 (length payload)) refl
  where
    rest : List ℕ
    rest = drop 112 payload

    left : length rest ≡ length payload - 112
    left = length-drop 112 payload

    go : (full : Bool) → leb 112 (length payload) ≡ full
        → first_part payload ++ (rest ++ zeros (records * 112 - length rest)) ≡ payload ++ zeros (suc records * 112 - length payload)
    go true e =
        let full : 112 ≤ length payload = leb-true 112 (length payload) e in
        let part : length (take 112 payload) ≡ 112 = length-take-le 112 payload full in
        let whole : first_part payload ≡ take 112 payload = ap (λ (k : ℕ). take 112 payload ++ zeros (112 - k)) part ∙ append-nil (take 112 payload) in
        let same : records * 112 - length rest ≡ suc records * 112 - length payload = omega (arith, left, full) in
        ap (λ (l : List ℕ). l ++ (rest ++ zeros (records * 112 - length rest))) whole
        ∙ sym (append_assoc (take 112 payload) rest (zeros (records * 112 - length rest)))
        ∙ (λ k. take-append-drop 112 payload k ++ zeros (same k))
    go false e =
        let short : length payload < 112 = leb-false 112 (length payload) e in
        let all : take 112 payload ≡ payload = take_all 112 payload (omega (arith, short)) in
        let none : rest ≡ [] = drop_of_length-le payload {i = 112} (omega (arith, short)) in
        let sizes : 112 - length payload + (records * 112 - 0) ≡ suc records * 112 - length payload = omega (arith, short) in
        (λ k. all k ++ zeros (112 - length (all k)) ++ (none k ++ zeros (records * 112 - length (none k))))
        ∙ append_assoc payload (zeros (112 - length payload)) (zeros (records * 112 - 0))
        ∙ ap (λ (l : List ℕ). payload ++ l) (replicate-append-replicate (112 - length payload) (records * 112 - 0) 0 ∙ ap zeros sizes)

-- what is made carries the payload and its padding
carries : (records i n version : ℕ) (payload : List ℕ) → length payload ≤ records * 112
    → carried records (made_records records i n version payload) ≡ payload ++ zeros (records * 112 - length payload)
unfolding made_records carried
carries zero i n version [] h = refl
carries zero i n version (x ∷ payload) h = absurd (omega (arith, h))
carries (suc records) i n version payload h =
    let made : List ℕ = made_record i n version (first_part payload) in
    let rest : List ℕ = drop 112 payload in
    let more : List ℕ = made_records records (i + 1) n version rest in
    let part : bytes_in payload_field (made ++ more) ≡ first_part payload = part_in i n version (first_part payload) (part_whole payload) more in
    let past : drop 128 (made ++ more) ≡ more = drop_at made more 128 (made_long i n version (first_part payload) (part_whole payload)) in
    let others : carried records (drop 128 (made ++ more)) ≡ rest ++ zeros (records * 112 - length rest) =
    ap (carried records) past ∙ carries records (i + 1) n version rest (omega (arith, h, length-drop 112 payload)) in
    (λ k. part k ++ others k) ∙ padded_whole records payload

records_bytes : (records i n version : ℕ) (payload : List ℕ) → AreBytes payload → AreBytes (made_records records i n version payload)
unfolding made_records
records_bytes zero i n version payload are = λ place. omega arith
records_bytes (suc records) i n version payload are =
    append_bytes (made_record i n version (first_part payload)) (made_records records (i + 1) n version (drop 112 payload))
    (made_bytes i n version (first_part payload) (part_whole payload)
    (append_bytes (take 112 payload) (zeros (112 - length (take 112 payload))) (take_bytes 112 payload are) (zeros_bytes (112 - length (take 112 payload)))))
    (records_bytes records (i + 1) n version (drop 112 payload) (drop_bytes 112 payload are))

made_well : (payload : List ℕ) (version : ℕ) → length payload ≤ 14336 → 1 ≤ version → version ≤ 18446744073709551615 → MadeWell payload version
unfolding made_image payload_of
made_well payload version h one most =
    record {
      good_image_law = image_good n version payload (cut payload).some few one (omega (arith, most));
      reads_back = ap (λ (k : ℕ). carried k (made_records n 0 n version payload)) count ∙ carries n 0 n version payload (cut payload).enough;
      its_bytes = records_bytes n 0 n version payload;
    }
  where
    n : ℕ
    n = parts_of payload

    few : n ≤ 128
    few = omega (arith, h, (cut payload).no_more)

    count : records_of (made_records n 0 n version payload) ≡ n
    count = ap (λ (k : ℕ). k / 128) (records_long n 0 n version payload) ∙ omega arith

-- what records carry has 112 bytes for each
pub carried_long : (records : ℕ) (bytes : List ℕ) → records * 128 ≤ length bytes → length (carried records bytes) ≡ records * 112
unfolding carried
carried_long zero bytes long = refl
carried_long (suc records) bytes long =
    let room : 112 ≤ length (drop 12 bytes) = rw length-drop (omega (arith, long)) in
    length-append (take 112 (drop 12 bytes)) (carried records (drop 128 bytes))
    ∙ omega (arith, length-take-le 112 (drop 12 bytes) room, carried_long records (drop 128 bytes) (rw length-drop (omega (arith, long))))

-- what the first so many records carry, and the next one
pub one_part_more : (records : ℕ) (bytes : List ℕ)
    → carried (suc records) bytes ≡ carried records bytes ++ take 112 (drop (records * 128 + 12) bytes)
unfolding carried
one_part_more zero bytes = append-nil (take 112 (drop 12 bytes))
one_part_more (suc records) bytes =
    let place : 128 + (records * 128 + 12) ≡ suc records * 128 + 12 = omega arith in
    let later : drop (records * 128 + 12) (drop 128 bytes) ≡ drop (suc records * 128 + 12) bytes =
    drop-drop (records * 128 + 12) 128 bytes ∙ ap (λ (at : ℕ). drop at bytes) place in
    ap (λ (l : List ℕ). take 112 (drop 12 bytes) ++ l) (one_part_more records (drop 128 bytes))
    ∙ sym (append_assoc (take 112 (drop 12 bytes)) (carried records (drop 128 bytes)) _)
    ∙ ap (λ (l : List ℕ). take 112 (drop 12 bytes) ++ carried records (drop 128 bytes) ++ take 112 l) later

-- a good record and the records that what follows carries make, are the bytes again
one_again : (i n version : ℕ) (bytes carry made : List ℕ) → 128 ≤ length bytes → AreBytes bytes → good_record i n version (take 128 bytes) ≡ true
    → made ≡ drop 128 bytes → made_record i n version (first_part (bytes_in payload_field bytes ++ carry)) ++ made ≡ bytes
one_again i n version bytes carry made room are good others =
    (λ k. (ap (made_record i n version) (first ∙ within) ∙ this) k ++ others k) ∙ take-append-drop 128 bytes
  where
    front : length (take 128 bytes) ≡ 128
    front = length-take-le 128 bytes room

    part : List ℕ
    part = bytes_in payload_field bytes

    part_long : length part ≡ 112
    part_long = length-take-le 112 (drop 12 bytes) (rw length-drop (omega (arith, room)))

    first : first_part (part ++ carry) ≡ part
    first =
        let cut_off : take 112 (part ++ carry) ≡ part = take_at part carry 112 part_long in
        (λ k. cut_off k ++ zeros (112 - length (cut_off k))) ∙ ap (λ (k : ℕ). part ++ zeros (112 - k)) part_long ∙ append-nil part

    within : part ≡ bytes_in payload_field (take 128 bytes)
    within =
        ap (λ (l : List ℕ). take 112 (drop 12 l)) (sym (take-append-drop 128 bytes))
        ∙ ap (take 112) (drop-append-le 12 (take 128 bytes) (drop 128 bytes) (omega (arith, front)))
        ∙ take-append-le 112 (drop 12 (take 128 bytes)) (drop 128 bytes) (rw (length-drop, front) (omega arith))

    this : made_record i n version (bytes_in payload_field (take 128 bytes)) ≡ take 128 bytes
    this = record_again i n version (take 128 bytes) front (take_bytes 128 bytes are) good

-- what good records carry makes them again
records_again : (records i n version : ℕ) (bytes : List ℕ) → length bytes ≡ records * 128 → AreBytes bytes
    → good_records records i n version bytes ≡ true → made_records records i n version (carried records bytes) ≡ bytes
unfolding made_records carried good_records
records_again zero i n version [] long are good = refl
records_again zero i n version (x ∷ bytes) long are good = absurd (omega (arith, long))
records_again (suc records) i n version bytes long are good =
    let both = and_true (good_record i n version (take 128 bytes)) (good_records records (i + 1) n version (drop 128 bytes)) good in
    let part : List ℕ = bytes_in payload_field bytes in
    let carry : List ℕ = carried records (drop 128 bytes) in
    let past : drop 112 (part ++ carry) ≡ carry =
    drop_at part carry 112 (length-take-le 112 (drop 12 bytes) (rw length-drop (omega (arith, long)))) in
    one_again i n version bytes carry (made_records records (i + 1) n version (drop 112 (part ++ carry))) (omega (arith, long)) are both.0
    (ap (made_records records (i + 1) n version) past
    ∙ records_again records (i + 1) n version (drop 128 bytes) (length-drop 128 bytes ∙ omega (arith, long)) (drop_bytes 128 bytes are) both.1)

-- what a good image is known by
pub record Known (image : List ℕ) (version : ℕ) : Type 0 where
  pub sized : Sized (length image)
  pub good : good_records (records_of image) 0 (records_of image) version image ≡ true

pub known : (image : List ℕ) (version : ℕ) → image_of image ≡ Ok version → Known image version
unfolding good_image
known image version e =
    let good = (is_good image version).0 e in
    let records = and_true (good_size image && not (version_of image =? 0)) (good_records (records_of image) 0 (records_of image) (version_of image) image) good.0 in
    let size = and_true (good_size image) (not (version_of image =? 0)) records.0 in
    record {
      sized = good_size_law image size.0;
      good = ap (λ (v : ℕ). good_records (records_of image) 0 (records_of image) v image) good.1 ∙ records.1;
    }

made_again : (image : List ℕ) (version : ℕ) → AreBytes image → image_of image ≡ Ok version → made_image (payload_of image) version ≡ image
unfolding made_image payload_of
made_again image version are e =
    let k = known image version e in
    let n : ℕ = records_of image in
    let long : length (carried n image) ≡ n * 112 = carried_long n image (omega (arith, k.sized.whole)) in
    let parts = cut (carried n image) in
    let same : parts_of (carried n image) ≡ n = omega (arith, long, parts.some, parts.enough, parts.no_more, k.sized.some) in
    ap (λ (m : ℕ). made_records m 0 m version (carried n image)) same ∙ records_again n 0 n version image k.sized.whole are k.good

-- at least one part, enough for the payload, and no more
parts_of_law : (payload : List ℕ) → PartsOf payload (parts_of payload)
parts_of_law payload =
    let c = cut payload in
    record { one = c.some; enough = c.enough; no_more = λ fewer some enough. omega (arith, c.no_more, some, enough) }

made_size : (payload : List ℕ) (version : ℕ) → length (made_image payload version) ≡ parts_of payload * 128
unfolding made_image
made_size payload version = records_long (parts_of payload) 0 (parts_of payload) version payload

read_size : (image : List ℕ) → length (payload_of image) ≡ records_of image * 112
unfolding payload_of
read_size image = carried_long (records_of image) image (omega arith)

-- what is told where something is made, and where it is read back
record Tells (size told room : ℕ) : Type 0 where
  same : told ≡ size
  fits : size ≤ room

tells_made : (zero? over? : Bool) (size room : ℕ) (told : ℕ)
    → (if zero? then Err VersionZero else if over? then Err PayloadOver128Records else if room <? size then Err OutputTooShort else Ok size) ≡ Ok told → Tells size told room
tells_made true over? size room told e = let z : ◌≡◌ {A = ℕ} 0 1 = cc in absurd (omega arith)
tells_made false true size room told e = let z : ◌≡◌ {A = ℕ} 0 1 = cc in absurd (omega arith)
tells_made false false size room told e = go (room <? size) refl e
  where
    go : (short : Bool) → (room <? size) ≡ short → (if short then Err OutputTooShort else Ok size) ≡ Ok told → Tells size told room
    go true f g = let z : ◌≡◌ {A = ℕ} 0 1 = cc in absurd (omega arith)
    go false f g = let same : size ≡ told = cc in record { same = sym same; fits = ltb-false room size f }

made_told : (version : ℕ) (payload output : List ℕ) (told : ℕ) → making_of version payload output ≡ Ok told → Told told (made_image payload version) output
unfolding making_of
made_told version payload output told e =
    let t = tells_made (version =? 0) (most_records <? parts_of payload) (parts_of payload * 128) (length output) told e in
    record { its_length = t.same ∙ sym (made_size payload version); room = omega (arith, t.same, t.fits) }

tells_read : (found : Image) (image output : List ℕ) (told : ℕ) → reading_if found image output ≡ Ok told → Tells (records_of image * 112) told (length output)
tells_read (Err fault) image output told e = let z : ◌≡◌ {A = ℕ} 0 1 = cc in absurd (omega arith)
tells_read (Ok version) image output told e = go (length output <? records_of image * 112) refl e
  where
    go : (short : Bool) → (length output <? records_of image * 112) ≡ short → (if short then Err ReadTooShort else Ok (records_of image * 112)) ≡ Ok told
        → Tells (records_of image * 112) told (length output)
    go true f g = let z : ◌≡◌ {A = ℕ} 0 1 = cc in absurd (omega arith)
    go false f g = let same : records_of image * 112 ≡ told = cc in record { same = sym same; fits = ltb-false (length output) (records_of image * 112) f }

read_told : (image output : List ℕ) (told : ℕ) → reading_of image output ≡ Ok told → Told told (payload_of image) output
unfolding reading_of
read_told image output told e =
    let t = tells_read (image_of image) image output told e in
    record { its_length = t.same ∙ sym (read_size image); room = omega (arith, t.same, t.fits) }

pub request_T02 : RequestT02
request_T02 =
    record {
      parts = parts_of_law;
      over_128_records = over_128_records;
      made_well = made_well;
      made_again = made_again;
      made_size = made_size;
      read_size = read_size;
      made_told = made_told;
      read_told = read_told;
    }
