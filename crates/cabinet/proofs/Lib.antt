pub mod Agree
pub mod Outcomes
