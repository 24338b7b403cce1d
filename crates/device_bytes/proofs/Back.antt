-- What was encoded decodes to the same record.
-- Assumes nothing.
use mathlib.Core.{Path.{◌≡◌, refl, ◌∙◌, ap}, Bool.{Bool, true, false}, List.{List, ◌++◌}}
use Prim.Native.Nat.{ℕ, ◌<◌, ◌+◌, ◌^◌}
use lib.{ListN.{length, take, drop, length-append}, Seq.{take_at, drop_at}}
use Rattle.rules.{specs.Tests.{◌≤?◌, ◌=?◌}, specs.Bytes.{le, of_le, number_at, zeros, zeros?}, specs.Record.phase_number, specs.declared.Phase.Phase}
use Rattle.rules.{specs.declared.Phase.TheVariants.{Idle, Receiving, Verifying, Staged, Failed}, specs.declared.Device.Device}
use Rattle.rules.proofs.page.Le.{of_le_le}
use Rattle.device_bytes.specs.Encoding.{flag, first_bytes, transfer_bytes, encoded_thresholds, fault_bytes, reading_bytes, encode_of, phase_of, record?, record_of, decode_of}

-- what the types say of a record's fields
pub record InRange (d : Device) : Type 0 where
  pub current : d.transfer.current < 256 ^ 4
  pub received : d.transfer.received < 256 ^ 4
  pub ticks : d.transfer.ticks < 256 ^ 1
  pub running : d.transfer.running < 256 ^ 8
  pub staged : d.transfer.staged < 256 ^ 8
  pub reason : d.transfer.reason < 256 ^ 1
  pub faulty : d.transfer.faulty < 256 ^ 1
  pub enable : d.thresholds.enable < 256 ^ 2
  pub spare : d.thresholds.spare < 256 ^ 1
  pub media : d.thresholds.media < 256 ^ 2
  pub controller : d.thresholds.controller < 256 ^ 2
  pub attempts : d.security.attempts < 256 ^ 1
  pub read_spare : d.reading.spare < 256 ^ 1
  pub read_media : d.reading.media < 256 ^ 2
  pub read_controller : d.reading.controller < 256 ^ 2
  pub trips : d.trips < 256 ^ 1
  pub passphrase : length d.security.passphrase ≡ 32

phase_back : (p : Phase) → phase_of (of_le (le 1 (phase_number p))) ≡ p
phase_back Idle = refl
phase_back Receiving = refl
phase_back Verifying = refl
phase_back Staged = refl
phase_back Failed = refl

flag_back : (b : Bool) → of_le (le 1 (flag b)) =? 1 ≡ b
flag_back true = refl
flag_back false = refl

phase_fine : (p : Phase) → (of_le (le 1 (phase_number p)) ≤? 4) ≡ true
phase_fine Idle = refl
phase_fine Receiving = refl
phase_fine Verifying = refl
phase_fine Staged = refl
phase_fine Failed = refl

flag_fine : (b : Bool) → (of_le (le 1 (flag b)) ≤? 1) ≡ true
flag_fine true = refl
flag_fine false = refl

module _ (d : Device) (h : InRange d) where
  abbrev pass : List ℕ
  pass = d.security.passphrase

  pass_back : take 32 (drop 64 (encode_of d)) ≡ pass
  unfolding encode_of
  pass_back = take_at pass (zeros 32) 32 h.passphrase

  record_back : record_of (encode_of d) ≡ d
  unfolding record_of encode_of
  record_back = λ i. record {
    transfer = record {
      phase = phase_back d.transfer.phase i;
      current = of_le_le 4 d.transfer.current h.current i;
      received = of_le_le 4 d.transfer.received h.received i;
      ticks = of_le_le 1 d.transfer.ticks h.ticks i;
      running = of_le_le 8 d.transfer.running h.running i;
      staged = of_le_le 8 d.transfer.staged h.staged i;
      reason = of_le_le 1 d.transfer.reason h.reason i;
      faulty = of_le_le 1 d.transfer.faulty h.faulty i;
    };
    thresholds = record {
      enable = of_le_le 2 d.thresholds.enable h.enable i;
      spare = of_le_le 1 d.thresholds.spare h.spare i;
      media = of_le_le 2 d.thresholds.media h.media i;
      controller = of_le_le 2 d.thresholds.controller h.controller i;
    };
    security = record {
      enabled = flag_back d.security.enabled i;
      locked = flag_back d.security.locked i;
      frozen = flag_back d.security.frozen i;
      attempts = of_le_le 1 d.security.attempts h.attempts i;
      passphrase = pass_back i;
    };
    reading = record {
      spare = of_le_le 1 d.reading.spare h.read_spare i;
      media = of_le_le 2 d.reading.media h.read_media i;
      controller = of_le_le 2 d.reading.controller h.read_controller i;
    };
    trips = of_le_le 1 d.trips h.trips i;
  }

  pub long : length (encode_of d) ≡ 128
  unfolding encode_of
  long =
      length-append (first_bytes d ++ transfer_bytes d.transfer ++ encoded_thresholds d.thresholds ++ fault_bytes d.transfer ++ reading_bytes d.reading d.trips ++ zeros 18) (pass ++ zeros 32)
      ∙ ap (λ (k : ℕ). 64 + k) (length-append pass (zeros 32) ∙ ap (λ (k : ℕ). k + 32) h.passphrase)

  tail_zero : zeros? (drop 96 (encode_of d)) ≡ true
  unfolding encode_of zeros?
  tail_zero = ap zeros? (drop_at pass (zeros 32) 32 h.passphrase)

  middle_zero : zeros? (take 18 (drop 46 (encode_of d))) ≡ true
  unfolding encode_of zeros?
  middle_zero = refl

  phase_is : (number_at 1 0 (encode_of d) ≤? 4) ≡ true
  unfolding encode_of
  phase_is = phase_fine d.transfer.phase

  enabled_is : (number_at 1 1 (encode_of d) ≤? 1) ≡ true
  unfolding encode_of
  enabled_is = flag_fine d.security.enabled

  locked_is : (number_at 1 2 (encode_of d) ≤? 1) ≡ true
  unfolding encode_of
  locked_is = flag_fine d.security.locked

  frozen_is : (number_at 1 3 (encode_of d) ≤? 1) ≡ true
  unfolding encode_of
  frozen_is = flag_fine d.security.frozen

  unused_is : (number_at 1 33 (encode_of d) =? 0) ≡ true
  unfolding encode_of
  unused_is = refl

  is_record : record? (encode_of d) ≡ true
  unfolding record?
  is_record = rw (long, phase_is, enabled_is, locked_is, frozen_is, unused_is, middle_zero, tail_zero) refl

  pub back : decode_of (encode_of d) ≡ d
  unfolding decode_of
  back = rw is_record record_back
