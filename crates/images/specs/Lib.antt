pub mod Version
pub mod Words
