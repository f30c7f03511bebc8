pub mod Masking
pub mod Absorbed
pub mod Sames
pub mod Openings
