pub mod Found
pub mod Turns
pub mod Joined
pub mod TextOfLog
pub mod NeverR
