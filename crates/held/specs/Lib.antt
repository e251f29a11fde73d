pub mod Faults
pub mod Value
pub mod Scenes
pub mod Records
