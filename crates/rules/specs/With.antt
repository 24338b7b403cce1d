-- Document 01, "The device record": "What a step below doesn't name stays." Each step names the fields it changes: `t with_ticks 0` is t with its
-- ticks left at 0 and every other field as it was.
-- Assumes nothing.
use Rattle.std.specs.Prelude.{ℕ}
use mathlib.Core.{List.List, Bool.Bool}
use Rattle.rules.specs.declared.{Phase.Phase, Transfer.Transfer, Thresholds.Thresholds, Security.Security, Reading.Reading, Device.Device, Cabinet.Cabinet}

infixl 10 ◌with_phase◌ ◌with_current◌ ◌with_received◌ ◌with_ticks◌ ◌with_running◌ ◌with_staged◌ ◌with_reason◌ ◌with_faulty◌
infixl 10 ◌with_enabled◌ ◌with_locked◌ ◌with_frozen◌ ◌with_attempts◌ ◌with_passphrase◌
infixl 10 ◌with_transfer◌ ◌with_thresholds◌ ◌with_security◌ ◌with_reading◌ ◌with_trips◌
infixl 10 ◌with_contexts◌
abbrev pub ◌with_phase◌ : Transfer → Phase → Transfer
t with_phase x = record { phase = x; current = t.current; received = t.received; ticks = t.ticks; running = t.running; staged = t.staged; reason = t.reason; faulty = t.faulty }

abbrev pub ◌with_current◌ : Transfer → ℕ → Transfer
t with_current x = record { phase = t.phase; current = x; received = t.received; ticks = t.ticks; running = t.running; staged = t.staged; reason = t.reason; faulty = t.faulty }

abbrev pub ◌with_received◌ : Transfer → ℕ → Transfer
t with_received x = record { phase = t.phase; current = t.current; received = x; ticks = t.ticks; running = t.running; staged = t.staged; reason = t.reason; faulty = t.faulty }

abbrev pub ◌with_ticks◌ : Transfer → ℕ → Transfer
t with_ticks x = record { phase = t.phase; current = t.current; received = t.received; ticks = x; running = t.running; staged = t.staged; reason = t.reason; faulty = t.faulty }

abbrev pub ◌with_running◌ : Transfer → ℕ → Transfer
t with_running x = record { phase = t.phase; current = t.current; received = t.received; ticks = t.ticks; running = x; staged = t.staged; reason = t.reason; faulty = t.faulty }

abbrev pub ◌with_staged◌ : Transfer → ℕ → Transfer
t with_staged x = record { phase = t.phase; current = t.current; received = t.received; ticks = t.ticks; running = t.running; staged = x; reason = t.reason; faulty = t.faulty }

abbrev pub ◌with_reason◌ : Transfer → ℕ → Transfer
t with_reason x = record { phase = t.phase; current = t.current; received = t.received; ticks = t.ticks; running = t.running; staged = t.staged; reason = x; faulty = t.faulty }

abbrev pub ◌with_faulty◌ : Transfer → ℕ → Transfer
t with_faulty x = record { phase = t.phase; current = t.current; received = t.received; ticks = t.ticks; running = t.running; staged = t.staged; reason = t.reason; faulty = x }

abbrev pub ◌with_enabled◌ : Security → Bool → Security
s with_enabled x = record { enabled = x; locked = s.locked; frozen = s.frozen; attempts = s.attempts; passphrase = s.passphrase }

abbrev pub ◌with_locked◌ : Security → Bool → Security
s with_locked x = record { enabled = s.enabled; locked = x; frozen = s.frozen; attempts = s.attempts; passphrase = s.passphrase }

abbrev pub ◌with_frozen◌ : Security → Bool → Security
s with_frozen x = record { enabled = s.enabled; locked = s.locked; frozen = x; attempts = s.attempts; passphrase = s.passphrase }

abbrev pub ◌with_attempts◌ : Security → ℕ → Security
s with_attempts x = record { enabled = s.enabled; locked = s.locked; frozen = s.frozen; attempts = x; passphrase = s.passphrase }

abbrev pub ◌with_passphrase◌ : Security → List ℕ → Security
s with_passphrase x = record { enabled = s.enabled; locked = s.locked; frozen = s.frozen; attempts = s.attempts; passphrase = x }

abbrev pub ◌with_transfer◌ : Device → Transfer → Device
d with_transfer x = record { transfer = x; thresholds = d.thresholds; security = d.security; reading = d.reading; trips = d.trips }

abbrev pub ◌with_thresholds◌ : Device → Thresholds → Device
d with_thresholds x = record { transfer = d.transfer; thresholds = x; security = d.security; reading = d.reading; trips = d.trips }

abbrev pub ◌with_security◌ : Device → Security → Device
d with_security x = record { transfer = d.transfer; thresholds = d.thresholds; security = x; reading = d.reading; trips = d.trips }

abbrev pub ◌with_reading◌ : Device → Reading → Device
d with_reading x = record { transfer = d.transfer; thresholds = d.thresholds; security = d.security; reading = x; trips = d.trips }

abbrev pub ◌with_trips◌ : Device → ℕ → Device
d with_trips x = record { transfer = d.transfer; thresholds = d.thresholds; security = d.security; reading = d.reading; trips = x }

abbrev pub ◌with_contexts◌ : Cabinet → ℕ → Cabinet
c with_contexts x = record { contexts = x; first = c.first; second = c.second }
