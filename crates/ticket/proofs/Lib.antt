pub mod Goes
pub mod Lines
pub mod Numbered
pub mod Spells
