pub mod Higher
pub mod Shifted
