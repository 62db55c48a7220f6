pub mod Edges
pub mod Entry
pub mod Sides
