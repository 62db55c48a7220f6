pub mod Answers
pub mod Merging
pub mod Polyline
pub mod Segments
pub mod Words
