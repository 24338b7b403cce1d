pub mod Fine
pub mod Back
pub mod Range
pub mod Refused
pub mod Again
