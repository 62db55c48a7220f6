pub mod Answers
pub mod Rows
pub mod Segments
pub mod Words
pub mod Sides
