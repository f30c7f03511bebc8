pub mod Looks
pub mod Lapsing
pub mod Ruled
