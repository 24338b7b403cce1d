-- The decoding functions against the definitions, over plain values.
-- Assumes nothing.
use mathlib.Core.{Path.{◌≡◌, refl, sym, ◌∙◌, ap}, Bool.{Bool, true, false, ◌&&◌}, List.List}
use Prim.Native.Nat.{ℕ}
use lib.{Dec.{leb, eqb}, ListN.{length, take, drop}}
use Rattle.rules.{specs.Bytes.{number_at, zeros?}, specs.declared.Phase.Phase, specs.declared.Security.Security, specs.declared.Reading.Reading, specs.declared.Device.Device}
use Rattle.std.specs.Array.{IsWholeChunk}
use Rattle.device_bytes.{specs.Encoding.{phase_of, record?, security_in, reading_in, record_of, impossible, decode_of}, proofs.Fine.fine}

pub tested : (s : List ℕ) {phase enabled locked frozen unused : ℕ} {between after : Bool} → length s ≡ 128
    → phase ≡ number_at 1 0 s → enabled ≡ number_at 1 1 s → locked ≡ number_at 1 2 s → frozen ≡ number_at 1 3 s → unused ≡ number_at 1 33 s
    → between ≡ zeros? (take 18 (drop 46 s)) → after ≡ zeros? (drop 96 s)
    → (leb phase 4 && leb enabled 1 && leb locked 1 && leb frozen 1 && eqb unused 0 && between && after) ≡ record? s
unfolding record?
tested s h p q r t u v w = rw (p, q, r, t, u, v, w, h) refl

pub read : (s : List ℕ) {phase current received ticks running staged reason faulty enable spare media controller trips : ℕ} {p : Phase} {security : Security} {reading : Reading}
    → phase ≡ number_at 1 0 s → p ≡ phase_of phase → current ≡ number_at 4 8 s → received ≡ number_at 4 12 s → ticks ≡ number_at 1 5 s
    → running ≡ number_at 8 16 s → staged ≡ number_at 8 24 s → reason ≡ number_at 1 38 s → faulty ≡ number_at 1 39 s
    → enable ≡ number_at 2 6 s → spare ≡ number_at 1 32 s → media ≡ number_at 2 34 s → controller ≡ number_at 2 36 s
    → security ≡ security_in s → reading ≡ reading_in s → trips ≡ number_at 1 41 s
    → record {
      transfer = record { phase = p; current = current; received = received; ticks = ticks; running = running; staged = staged; reason = reason; faulty = faulty };
      thresholds = record { enable = enable; spare = spare; media = media; controller = controller };
      security = security;
      reading = reading;
      trips = trips;
    }
    ≡ record_of s
unfolding record_of
read s e0 ep e8 e12 e5 e16 e24 e38 e39 e6 e32 e34 e36 e1 e40 e41 = λ i. record {
  transfer = record { phase = (ep ∙ ap phase_of e0) i; current = e8 i; received = e12 i; ticks = e5 i; running = e16 i; staged = e24 i; reason = e38 i; faulty = e39 i };
  thresholds = record { enable = e6 i; spare = e32 i; media = e34 i; controller = e36 i };
  security = e1 i;
  reading = e40 i;
  trips = e41 i;
}

-- what decodes: all of the bytes, where they are a record
pub was_record : (s bytes : List ℕ) {tested : Bool} {d : Device} → IsWholeChunk s bytes 128 → tested ≡ record? bytes → tested ≡ true → d ≡ record_of bytes → d ≡ decode_of s
unfolding decode_of
was_record s bytes w e t p =
    let whole : record? s ≡ true = ap record? (sym w.same) ∙ sym e ∙ t in
    rw whole (p ∙ ap record_of w.same)

pub was_none : (s bytes : List ℕ) {tested : Bool} {d : Device} → IsWholeChunk s bytes 128 → tested ≡ record? bytes → tested ≡ false → d ≡ impossible → d ≡ decode_of s
unfolding decode_of
was_none s bytes w e t p =
    let whole : record? s ≡ false = ap record? (sym w.same) ∙ sym e ∙ t in
    rw whole p

-- bytes that are not 128
no_length : (s : List ℕ) (t : Bool) → (length s ≡ 128 → ⊥) → record? s ≡ t → t ≡ false
no_length s true h q = absurd (h (fine s q).long)
no_length s false h q = refl

pub not_whole : (s : List ℕ) {d : Device} → (length s ≡ 128 → ⊥) → d ≡ impossible → d ≡ decode_of s
unfolding decode_of
not_whole s h p =
    let none : record? s ≡ false = no_length s (record? s) h refl in
    rw none p
