pub mod Parts
pub mod Format
pub mod Decode
pub mod Sound
pub mod Accept
pub mod Records
