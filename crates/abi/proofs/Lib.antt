pub mod Kept
pub mod Made
pub mod Adopted
pub mod Agree
