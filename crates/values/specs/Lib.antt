pub mod Value
pub mod Meaning
pub mod Steps
pub mod Numbers
pub mod Found
pub mod RowsOf
