pub mod Builds
pub mod Options
pub mod Widens
