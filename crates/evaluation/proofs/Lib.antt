pub mod Walking
pub mod Founds
pub mod Filtered
