pub mod Rows
pub mod Tables
pub mod Lapses
pub mod Laws
pub mod Places
