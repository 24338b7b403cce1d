-- T-03 written out, from its theorems; its examples, by computation over the definitions.
-- Assumes nothing.
use Prim.Native.Nat.{ℕ, ◌/◌, ◌<◌}
use mathlib.Core.{Path.{◌≡◌, refl, subst, sym}, Logic.{◌↔◌, ◌⊎◌, inl, inr}, Bool.{Bool, true, false, ◌&&◌, ◌||◌, false≢true}, List.{List}}
use native.Mathlib.Omega.{arith}
use lib.ListN.{length}
use Rattle.rules.{specs.Bytes.zeros?, specs.Record.{possible, possible_transfer, possible_security, possible_thresholds, possible_reading, possible_parts, possible_trips, renewed}, specs.Adopt.{possible_alone, possible_parts_alone, possible_before, kept_before, adoptable, adopted, idle_again}}
use Rattle.rules.specs.Fault.{reason_number, ◌of_record◌, first_fault, passes, Named, First}
use Rattle.rules.specs.declared.{Reason.Reason, Reason.TheVariants.{Size, Number, Count, Version, Sum}, Device.Device}
use borrow.Author.Tests.{eq-eqb, eqb-true}
use Rattle.rules.{specs.Tests.◌=?◌, proofs.page.Choice.and_true, proofs.page.Faults.{request_T03, good_at}, proofs.page.Adopting.adopting}
use Rattle.rules.specs.Health.{above, trips}
use Rattle.rules_demands.specs.Faults.{sized, numbered, counted, versioned, summed, Reached, FaultsWrittenOut, IdleWithAllElse, AdoptingWrittenOut, FaultsHeld}

module _ (bytes : List ℕ) (i : ℕ) where
  -- what the first fault has, where it is not the size's
  reached : (reason : Reason) → First reason i bytes → 1 < reason_number reason → i < length bytes / 128 → Reached i bytes
  reached reason f late there =
      record {
        size_passes = f.tests_before Size late;
        is_there = there;
        numbers_pass = λ j l. f.records_before j l Number;
        counts_pass = λ j l. f.records_before j l Count;
        versions_pass = λ j l. f.records_before j l Version;
        sums_pass = λ j l. f.records_before j l Sum;
      }

  -- and back: it is the first where it is there and fails, and the tests before it pass
  all_before : Reached i bytes → (j : ℕ) → j < i → (test : Reason) → passes test j bytes ≡ true
  all_before r j l Size = r.size_passes
  all_before r j l Number = r.numbers_pass j l
  all_before r j l Count = r.counts_pass j l
  all_before r j l Version = r.versions_pass j l
  all_before r j l Sum = r.sums_pass j l

  is_first : (reason : Reason) → Reached i bytes → Named reason i bytes → passes reason i bytes ≡ false
      → ((test : Reason) → reason_number test < reason_number reason → passes test i bytes ≡ true) → first_fault bytes ≡ (reason of_record i)
  is_first reason r there fails before =
      (request_T03.the_first bytes reason i).1
      (record {
        named = there;
        fails = fails;
        tests_before = before;
        records_before = all_before r;
        good_before = λ j l. good_at bytes j (all_before r j l);
      })

  the_size : (first_fault bytes ≡ (Size of_record i)) ↔ ((sized bytes ≡ false) × (i ≡ 0))
  the_size = (
    λ e. let f = (request_T03.the_first bytes Size i).0 e in (f.fails, f.named),
    λ p. (request_T03.the_first bytes Size i).1
        (record {
          named = p.1;
          fails = p.0;
          tests_before = none_before;
          records_before = λ j l. absurd (omega (arith, l, p.1));
          good_before = λ j l. absurd (omega (arith, l, p.1));
        }),
  )
    where
      none_before : (test : Reason) → reason_number test < 1 → passes test i bytes ≡ true
      none_before Size l = absurd (omega (arith, l))
      none_before Number l = absurd (omega (arith, l))
      none_before Count l = absurd (omega (arith, l))
      none_before Version l = absurd (omega (arith, l))
      none_before Sum l = absurd (omega (arith, l))

  the_number : (first_fault bytes ≡ (Number of_record i)) ↔ (Reached i bytes × (numbered i bytes ≡ false))
  the_number = (
    λ e. let f = (request_T03.the_first bytes Number i).0 e in (reached Number f (omega arith) f.named, f.fails),
    λ p. is_first Number p.0 p.0.is_there p.1 (before p.0),
  )
    where
      before : Reached i bytes → (test : Reason) → reason_number test < 2 → passes test i bytes ≡ true
      before r Size l = r.size_passes
      before r Number l = absurd (omega (arith, l))
      before r Count l = absurd (omega (arith, l))
      before r Version l = absurd (omega (arith, l))
      before r Sum l = absurd (omega (arith, l))

  the_count : (first_fault bytes ≡ (Count of_record i)) ↔ (Reached i bytes × (numbered i bytes ≡ true) × (counted i bytes ≡ false))
  the_count = (
    λ e. let f = (request_T03.the_first bytes Count i).0 e in (reached Count f (omega arith) f.named, f.tests_before Number (omega arith), f.fails),
    λ p. is_first Count p.0 p.0.is_there p.2 (before p.0 p.1),
  )
    where
      before : Reached i bytes → numbered i bytes ≡ true → (test : Reason) → reason_number test < 3 → passes test i bytes ≡ true
      before r n Size l = r.size_passes
      before r n Number l = n
      before r n Count l = absurd (omega (arith, l))
      before r n Version l = absurd (omega (arith, l))
      before r n Sum l = absurd (omega (arith, l))

  the_version : (first_fault bytes ≡ (Version of_record i)) ↔ (Reached i bytes × (numbered i bytes ≡ true) × (counted i bytes ≡ true) × (versioned i bytes ≡ false))
  the_version = (
    λ e. let f = (request_T03.the_first bytes Version i).0 e in
        (reached Version f (omega arith) f.named, f.tests_before Number (omega arith), f.tests_before Count (omega arith), f.fails),
    λ p. is_first Version p.0 p.0.is_there p.3 (before p.0 p.1 p.2),
  )
    where
      before : Reached i bytes → numbered i bytes ≡ true → counted i bytes ≡ true → (test : Reason) → reason_number test < 4 → passes test i bytes ≡ true
      before r n c Size l = r.size_passes
      before r n c Number l = n
      before r n c Count l = c
      before r n c Version l = absurd (omega (arith, l))
      before r n c Sum l = absurd (omega (arith, l))

  the_sum : (first_fault bytes ≡ (Sum of_record i))
      ↔ (Reached i bytes × (numbered i bytes ≡ true) × (counted i bytes ≡ true) × (versioned i bytes ≡ true) × (summed i bytes ≡ false))
  the_sum = (
    λ e. let f = (request_T03.the_first bytes Sum i).0 e in
        (reached Sum f (omega arith) f.named, f.tests_before Number (omega arith), f.tests_before Count (omega arith), f.tests_before Version (omega arith), f.fails),
    λ p. is_first Sum p.0 p.0.is_there p.4 (before p.0 p.1 p.2 p.3),
  )
    where
      before : Reached i bytes → numbered i bytes ≡ true → counted i bytes ≡ true → versioned i bytes ≡ true
          → (test : Reason) → reason_number test < 5 → passes test i bytes ≡ true
      before r n c v Size l = r.size_passes
      before r n c v Number l = n
      before r n c v Count l = c
      before r n c v Version l = v
      before r n c v Sum l = absurd (omega (arith, l))

pub written_out : FaultsWrittenOut
written_out =
    record {
      no_fault = request_T03.none_if_good;
      size = the_size;
      number = the_number;
      count = the_count;
      version = the_version;
      sum = the_sum;
      good_before = λ bytes reason i j e l. ((request_T03.the_first bytes reason i).0 e).good_before j l;
      told_good = request_T03.good;
      told_bad = λ bytes reason i.
          (λ e. (request_T03.the_first bytes reason i).1 ((request_T03.bad bytes reason i).0 e), λ e. (request_T03.bad bytes reason i).1 ((request_T03.the_first bytes reason i).0 e));
    }

-- a record kept before
either : (a b : Bool) → (a ≡ true) ⊎ (b ≡ true) → (a || b) ≡ true
either true b e = refl
either false b (inl e) = absurd (false≢true e)
either false b (inr e) = e

one_of_them : (d : Device) → (possible_alone d ≡ true) ⊎ ((d.trips ≡ 0) × ((possible_parts_alone d ≡ true) ⊎ (possible_before d ≡ true))) → adoptable d ≡ true
unfolding kept_before
one_of_them d (inl e) = either (possible_alone d) (kept_before d) (inl e)
one_of_them d (inr h) =
    either (possible_alone d) (d.trips =? 0 && (possible_parts_alone d || possible_before d)) (inr (rw (eq-eqb d.trips 0 h.0) (either (possible_parts_alone d) (possible_before d) h.1)))

or_true : (a b : Bool) → (a || b) ≡ true → (a ≡ true) ⊎ (b ≡ true)
or_true true b e = inl refl
or_true false b e = inr e

no_byte : (d : Device) → adoptable d ≡ true → possible_alone d ≡ false → (d.trips ≡ 0) × ((possible_parts_alone d ≡ true) ⊎ (possible_before d ≡ true))
unfolding kept_before
no_byte d e p =
    let both = and_true (d.trips =? 0) (possible_parts_alone d || possible_before d) (rw p at e) in
    (eqb-true d.trips 0 both.0, or_true (possible_parts_alone d) (possible_before d) both.1)

idle : (d taken : Device) → taken ≡ renewed (idle_again d) → IdleWithAllElse d taken
idle d taken e =
    subst (IdleWithAllElse d) (sym e)
    (record {
      idle = refl;
      received_0 = refl;
      same_current = refl;
      same_ticks = refl;
      same_running = refl;
      same_staged = refl;
      same_reason = refl;
      same_faulty = refl;
      same_security = refl;
      same_thresholds = refl;
      same_reading = refl;
      byte_due = refl;
    })

pub adopting_written : AdoptingWrittenOut
adopting_written =
    record {
      possible_then = λ d e. adopting.possible_then d (one_of_them d e);
      failed_alone = adopting.failed_alone;
      stays = adopting.as_it_is;
      byte_alone = adopting.byte_renewed;
      becomes_idle = λ d e. idle d (adopted d) (adopting.else_idle d e);
      none_else = no_byte;
      as_module_0 = λ d. refl;
      as_many_given = λ d. (adopting.contexts_kept d).0;
      its_own_kept = λ d. (adopting.contexts_kept d).1;
      module_1_fresh = adopting.second_fresh;
    }

pub faults_held : FaultsHeld
unfolding zeros? possible possible_transfer possible_security possible_thresholds possible_reading possible_parts possible_trips possible_before kept_before above trips
faults_held = record { numbers = refl; adopted_ones = refl; no_others = refl; none_with_reading = refl; adopted_bytes = refl; byte_given = refl; both = refl; in_a_cabinet = refl }
