pub mod Stepped
pub mod Parts
