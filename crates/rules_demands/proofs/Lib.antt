-- The demands written out, from the demands.
pub mod Places
pub mod Calls
pub mod Words
pub mod Turns
pub mod Checked
pub mod Histories
pub mod Beside
-- The lists of cases and of texts.
pub mod Examples
-- Document 02: reports over logs.
pub mod Reports
pub mod Images
pub mod Faults
pub mod Health
pub mod Reserved
pub mod Comparisons
pub mod Trips
-- Two modules: what one has of the other.
pub mod Modules
-- That demand 3 is not empty: the incident at sea, computed.
pub mod Incident
