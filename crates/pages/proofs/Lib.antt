pub mod Emitted
pub mod Past
