pub mod Values
pub mod Steps
pub mod Literals
pub mod Chains
