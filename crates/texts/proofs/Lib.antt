pub mod LeafTexts
pub mod Sums
pub mod Fills
