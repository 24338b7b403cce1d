-- Document 01, "What the module model covers", of one module: a call's bytes are decoded; its own checks; what it answers; and what it, a tick, a power cycle and a
-- reading change. The cabinet (Cabinet.antt) puts R numbers and the table's checks before them, and the module back in its place. Nothing here names a module: both
-- are as these rules say, given the shared number of contexts and whether the area is taken.
-- Assumes nothing.
use Rattle.std.specs.Prelude.{ℕ, List, [], ◌++◌}
use Rattle.rules.specs.Bytes.{le}
use Rattle.rules.specs.With.{◌with_transfer◌, ◌with_thresholds◌, ◌with_security◌, ◌with_reading◌, ◌with_trips◌}
use Rattle.rules.specs.Record.{Module, ◌with_device◌, ◌with_area◌, ◌with_given◌, renewed}
use Rattle.rules.specs.Refusals.{Check, status_bytes}
use Rattle.rules.specs.Table.{row_of, mask}
use Rattle.rules.specs.Thresholds.{ThresholdCall, GetThreshold, SetThreshold, set_threshold_of, threshold_checks, threshold_answer, threshold_change}
use Rattle.rules.specs.Health.{trips, answer_with}
use Rattle.rules.specs.Transfer.{TransferCall, GetFwInfo, Start, send_of, finish_of, query_of, transfer_checks, transfer_answer, transfer_change, given_after, transfer_area, tick_change, transfer_power}
use Rattle.rules.specs.Security.{SecurityCall, GetSecurityState, set_passphrase_of, Disable, Unlock, Freeze, security_checks, security_answer, security_change, security_power}
use Rattle.rules.specs.declared.{Function.Function, Thresholds.Thresholds, Reading.Reading, Device.Device}
use Rattle.rules.specs.declared.Function.TheVariants as Function'

-- a call, decoded: function 0 with its revision; function 1, which carries nothing; or a call on one part of the record; an index that the table lacks, to which status 1 comes first
pub data Call : Type 0 where
  OnMask : (revision : ℕ) → Call
  OnHealth : Call
  OnThresholds : ThresholdCall → Call
  OnTransfer : TransferCall → Call
  OnSecurity : SecurityCall → Call
  OnNothing : Call

-- The call that the bytes say: `Function'.Start` is the table's name, `Start` the call with what its request says. A request of the wrong length is decoded too, but
-- its length refuses it before any check of its fields.
abbrev pub call_of : Function → (revision : ℕ) (request : List ℕ) → Call
call_of Function'.Mask revision request = OnMask revision
call_of Function'.GetHealth revision request = OnHealth
call_of Function'.GetThreshold revision request = OnThresholds GetThreshold
call_of Function'.GetFwInfo revision request = OnTransfer GetFwInfo
call_of Function'.Start revision request = OnTransfer Start
call_of Function'.Send revision request = OnTransfer (send_of request)
call_of Function'.Finish revision request = OnTransfer (finish_of request)
call_of Function'.Query revision request = OnTransfer (query_of request)
call_of Function'.SetThreshold revision request = OnThresholds (set_threshold_of request)
call_of Function'.GetSecurityState revision request = OnSecurity GetSecurityState
call_of Function'.SetPassphrase revision request = OnSecurity (set_passphrase_of request)
call_of Function'.Disable revision request = OnSecurity (Disable request)
call_of Function'.Unlock revision request = OnSecurity (Unlock request)
call_of Function'.Freeze revision request = OnSecurity Freeze
call_of Function'.Unserved revision request = OnNothing

-- the call that a request is, by the table's function of its index
abbrev pub call_in : (revision index : ℕ) (request : List ℕ) → Call
call_in revision index request = call_of (row_of index).function revision request

-- each function's checks
abbrev pub checks : Module → Call → List Check
checks m (OnMask revision) = []
checks m OnHealth = []
checks m (OnThresholds asked) = threshold_checks asked
checks m (OnTransfer asked) = transfer_checks m.device.transfer m.given m.taken asked
checks m (OnSecurity asked) = security_checks m.device.security asked
checks m OnNothing = []

-- the bytes of an accepted call's answer: "a 2-byte status and a 2-byte extended number .., but for function 0". An index that the table lacks is never
-- accepted, so that its line is never used. Document 02, T-08: "Store the byte in the device record and answer from it."
abbrev pub accepted_answer : Module → Call → List ℕ
accepted_answer m (OnMask revision) = le 4 (mask revision)
accepted_answer m OnHealth = status_bytes 0 0 ++ answer_with m.device.trips m.device.reading
accepted_answer m (OnThresholds asked) = status_bytes 0 0 ++ threshold_answer m.device.thresholds asked
accepted_answer m (OnTransfer asked) = status_bytes 0 0 ++ transfer_answer m.device.transfer m.given asked
accepted_answer m (OnSecurity asked) = status_bytes 0 0 ++ security_answer m.device.security asked
accepted_answer m OnNothing = status_bytes 0 0

-- the trips byte after a call on the thresholds: a Set renews it, by the thresholds that it stores
abbrev pub trips_after : Thresholds → Reading → (was : ℕ) → ThresholdCall → ℕ
trips_after h r was GetThreshold = was
trips_after h r was (SetThreshold enable spare media controller) = trips (threshold_change h (SetThreshold enable spare media controller)) r

-- the module after an accepted call: each works on its part of the record, a Set Threshold on the trips byte too, and a transfer's call on the area too
abbrev pub change : Module → Call → Module
change m (OnMask revision) = m
change m OnHealth = m
change m (OnThresholds asked) =
    m with_device
    (m.device with_thresholds (threshold_change m.device.thresholds asked)
    with_trips (trips_after m.device.thresholds m.device.reading m.device.trips asked))
change m (OnTransfer asked) =
    m with_device (m.device with_transfer (transfer_change m.device.transfer m.given asked))
    with_area (transfer_area asked m.area)
    with_given (given_after m.given asked)
change m (OnSecurity asked) = m with_device (m.device with_security (security_change m.device.security asked))
change m OnNothing = m

-- a module's record after a tick
abbrev pub device_ticked : (area : List ℕ) → Device → Device
device_ticked area d = d with_transfer (tick_change d.transfer area)

-- after a power cycle: "Contexts, thresholds, passphrase and area stay." Document 02, T-04: "power cycles keep the last one [reading]".
abbrev pub device_powered : Device → Device
device_powered d = d with_transfer (transfer_power d.transfer) with_security (security_power d.security)

-- after a reading: "the device record keeps the last one." The trips byte is renewed (T-08).
abbrev pub device_keeping : (new : Reading) → Device → Device
device_keeping new d = renewed (d with_reading new)
