pub mod Among
pub mod Fronts
pub mod Holds
pub mod Orders
pub mod Records
pub mod Searches
