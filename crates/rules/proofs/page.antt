-- The case list.
pub mod Claim
-- Laws of choices, rows and the table, for the theorems below and for the code above.
pub mod Choice
pub mod Passed
pub mod Past
pub mod Accepted
pub mod Rows
pub mod Fitting
pub mod Told
pub mod Agree
pub mod Frozen
pub mod Area
-- The cabinet past its R numbers, seen from a module, in two parts; what every event keeps.
pub mod Split
pub mod Through
pub mod Facts
pub mod Invariant
pub mod Keeps
pub mod Possible
-- Demand 1.
pub mod Given
pub mod Demand1
-- Document 02.
pub mod Faults
pub mod Le
pub mod Records
pub mod Images
pub mod Counting
pub mod Reports
pub mod NoneAbove
pub mod Sums
pub mod Adopting
pub mod Health
pub mod LastReading
pub mod Reserved
pub mod Places
pub mod Compared
pub mod TripsKept
-- T-09: what one module has of the other.
pub mod Apart
pub mod Alike
pub mod Unseen
