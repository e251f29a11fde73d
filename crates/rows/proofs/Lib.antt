pub mod Cuts
pub mod Countings
pub mod Segments
pub mod Firsts
