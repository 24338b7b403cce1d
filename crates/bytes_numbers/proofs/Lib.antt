pub mod Bytes
pub mod Zeros
