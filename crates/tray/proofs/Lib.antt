pub mod Decodes
pub mod Formats
pub mod Walks
pub mod Same
