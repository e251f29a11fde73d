pub mod Opened
pub mod Looking
pub mod Found
pub mod Trails
pub mod Shown
