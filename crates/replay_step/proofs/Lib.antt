pub mod AnyBuffer
pub mod Steps
pub mod NoR
pub mod Agree
pub mod Joined
