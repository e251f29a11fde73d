pub mod Books
pub mod Built
pub mod Exprs
pub mod Trees
pub mod Wider
