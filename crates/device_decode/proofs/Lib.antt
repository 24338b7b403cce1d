pub mod Decoded
pub mod Overlap
