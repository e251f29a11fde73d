pub mod Ends
pub mod Forms
pub mod Members
