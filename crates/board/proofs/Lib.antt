pub mod Arrays
pub mod Edges
pub mod Fronts
pub mod Listing
pub mod Sound
