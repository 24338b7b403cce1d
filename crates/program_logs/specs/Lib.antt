pub mod Standing
pub mod Through
pub mod Turns
