pub mod Slots
pub mod Torn
