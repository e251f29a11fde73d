pub mod Unfolds
pub mod Rests
pub mod Stepping
pub mod Listing
