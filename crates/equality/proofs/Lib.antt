pub mod Loops
pub mod Agreeing
