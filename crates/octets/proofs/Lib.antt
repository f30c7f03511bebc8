pub mod Laws
pub mod Xors
