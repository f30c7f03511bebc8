pub mod Placed
pub mod ReadBack
pub mod Inverted
