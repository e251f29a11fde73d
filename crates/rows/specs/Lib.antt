pub mod Counted
pub mod Windows
pub mod Spans
pub mod First
