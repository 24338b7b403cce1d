-- A module's device record as 128 bytes, little-endian, as a host keeps it: its numbers, its passphrase, and zeros where nothing stands yet.
-- Bytes that are no record decode to a record that is not possible, so that R3 refuses them.
-- Assumes nothing.
use Rattle.std.specs.Prelude.{ℕ}
use mathlib.Core.{List.{List, ◌++◌}, Bool.{Bool, ◌&&◌}}
use Rattle.std.specs.Prelude.{length, take, drop}
use Rattle.std.specs.Prelude.{if◌then◌else◌}
use Rattle.rules.specs.Tests.{◌≤?◌, ◌=?◌}
use Rattle.rules.specs.Bytes.{le, number_at, zeros, zeros?}
use Rattle.rules.specs.With.{◌with_transfer◌, ◌with_phase◌}
use Rattle.rules.specs.Record.{phase_number, fresh}
use Rattle.rules.specs.declared.{Phase.Phase, Phase.TheVariants.{Idle, Receiving, Verifying, Staged, Failed}, Transfer.Transfer, Thresholds.Thresholds}
use Rattle.rules.specs.declared.{Security.Security, Reading.Reading, Device.Device}

-- the bytes of a record
abbrev pub encoded_size : ℕ
encoded_size = 128

-- a flag's byte: 0 or 1
abbrev pub flag : Bool → ℕ
flag on = if on then 1 else 0

-- 1 enabled; 2 locked; 3 frozen; 4 attempts
abbrev pub state_bytes : Security → List ℕ
state_bytes s = le 1 (flag s.enabled) ++ le 1 (flag s.locked) ++ le 1 (flag s.frozen) ++ le 1 s.attempts

-- 0 phase (0 Idle, 1 Receiving, 2 Verifying, 3 Staged, 4 Failed); 1 to 4 the security state; 5 ticks left; 6 to 7 threshold enable bits
abbrev pub first_bytes : Device → List ℕ
first_bytes d =
    le 1 (phase_number d.transfer.phase) ++ state_bytes d.security ++ le 1 d.transfer.ticks ++ le 2 d.thresholds.enable

-- 8 to 11 its current context; 12 to 15 bytes received; 16 to 23 running version; 24 to 31 staged version
abbrev pub transfer_bytes : Transfer → List ℕ
transfer_bytes t = le 4 t.current ++ le 4 t.received ++ le 8 t.running ++ le 8 t.staged

-- 32 spare threshold; 33 zero; 34 to 35 media, 36 to 37 controller temperature threshold
abbrev pub encoded_thresholds : Thresholds → List ℕ
encoded_thresholds h = le 1 h.spare ++ zeros 1 ++ le 2 h.media ++ le 2 h.controller

-- 38 the reason of a fault, 39 the faulty record's number
abbrev pub fault_bytes : Transfer → List ℕ
fault_bytes t = le 1 t.reason ++ le 1 t.faulty

-- the last reading and the trips: 40 spare; 41 trips; 42 to 43 media, 44 to 45 controller temperature
abbrev pub reading_bytes : Reading → (trips : ℕ) → List ℕ
reading_bytes r trips = le 1 r.spare ++ le 1 trips ++ le 2 r.media ++ le 2 r.controller

-- 46 to 63 zero; 64 to 95 passphrase; 96 to 127 zero
unfoldable pub encode_of : Device → List ℕ
encode_of d =
    first_bytes d ++ transfer_bytes d.transfer ++ encoded_thresholds d.thresholds ++ fault_bytes d.transfer ++ reading_bytes d.reading d.trips ++ zeros 18
    ++ (d.security.passphrase ++ zeros 32)

-- these bytes are a record's: 128 of them, a phase that there is, each flag 0 or 1, zeros where nothing stands
unfoldable pub record? : List ℕ → Bool
record? s =
    length s =? encoded_size
    && number_at 1 0 s ≤? 4
    && number_at 1 1 s ≤? 1
    && number_at 1 2 s ≤? 1
    && number_at 1 3 s ≤? 1
    && number_at 1 33 s =? 0
    && zeros? (take 18 (drop 46 s))
    && zeros? (drop 96 s)

abbrev pub phase_of : ℕ → Phase
phase_of n =
    if n =? 0 then Idle
    else if n =? 1 then Receiving
    else if n =? 2 then Verifying
    else if n =? 3 then Staged
    else Failed

-- the security state that a record's bytes say
abbrev pub security_in : List ℕ → Security
security_in s =
    record {
      enabled = number_at 1 1 s =? 1;
      locked = number_at 1 2 s =? 1;
      frozen = number_at 1 3 s =? 1;
      attempts = number_at 1 4 s;
      passphrase = take 32 (drop 64 s);
    }

-- the reading that they say
abbrev pub reading_in : List ℕ → Reading
reading_in s = record { spare = number_at 1 40 s; media = number_at 2 42 s; controller = number_at 2 44 s }

-- the record that a record's bytes say
unfoldable pub record_of : List ℕ → Device
record_of s =
    record {
      transfer = record {
        phase = phase_of (number_at 1 0 s);
        current = number_at 4 8 s;
        received = number_at 4 12 s;
        ticks = number_at 1 5 s;
        running = number_at 8 16 s;
        staged = number_at 8 24 s;
        reason = number_at 1 38 s;
        faulty = number_at 1 39 s;
      };
      thresholds = record {
        enable = number_at 2 6 s;
        spare = number_at 1 32 s;
        media = number_at 2 34 s;
        controller = number_at 2 36 s;
      };
      security = security_in s;
      reading = reading_in s;
      trips = number_at 1 41 s;
    }

-- a record that is not possible, however many contexts are given out: a fresh one, but failed, though it was never given one
unfoldable pub impossible : Device
impossible = fresh with_transfer (fresh.transfer with_phase Failed)

-- any bytes, decoded
unfoldable pub decode_of : List ℕ → Device
decode_of s = if record? s then record_of s else impossible
