pub mod Made
pub mod Obeyed
pub mod Ran
