pub mod Items
pub mod Cuts
pub mod Trails
pub mod Fields
pub mod Visits
pub mod Views
