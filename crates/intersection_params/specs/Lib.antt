pub mod Crossing
pub mod Words
