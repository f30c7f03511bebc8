pub mod Times
pub mod Laws
