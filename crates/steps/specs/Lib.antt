pub mod Cores
pub mod Steps
pub mod Living
pub mod Opened
pub mod Timed
pub mod Offers
pub mod Buffers
pub mod Statuses
