pub mod Expressions
pub mod Conditions
pub mod Elements
