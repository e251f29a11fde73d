pub mod Leaves
pub mod Conditions
pub mod Whens
pub mod Loops
pub mod Cycles
pub mod Reading
