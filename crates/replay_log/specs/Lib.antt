pub mod Places
pub mod InParts
