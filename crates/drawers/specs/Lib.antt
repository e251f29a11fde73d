pub mod Kept
pub mod Shown
