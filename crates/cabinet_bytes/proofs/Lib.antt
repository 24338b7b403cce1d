pub mod Back
pub mod Range
pub mod Fine
pub mod Again
pub mod Refused
pub mod Placed
