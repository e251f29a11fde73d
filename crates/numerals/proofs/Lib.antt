pub mod Texts
pub mod Lawful
pub mod Readings
pub mod Bounded
