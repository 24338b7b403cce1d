-- The demands a second time, written out: each promise of rules with none of its own words (but for Comparisons, which takes a report's words from rules and says
-- by bytes, numbers and examples what they come to), and proved from it. Nobody has to read them for the demands, which
-- are rules' Demand1.antt and Demand3.antt; they are here so that none of those can come to say less unseen (docs/DECISIONS.md, p).
pub mod Calls
pub mod Words
pub mod Histories
pub mod Beside
-- What the lists of cases and of texts must have.
pub mod Examples
-- Document 02: reports over logs.
pub mod Reports
-- Images made and read back, by examples.
pub mod Images
-- The first fault by the bytes, and records from before.
pub mod Faults
-- Readings: words by their heights, alarms and function 1 by examples.
pub mod Health
pub mod Reserved
pub mod Comparisons
pub mod Trips
-- Two modules: what one has of the other.
pub mod Modules
