pub mod Neighbours
pub mod Points
pub mod Refusal
