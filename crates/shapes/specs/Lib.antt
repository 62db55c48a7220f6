pub mod Limits
pub mod Refusals
pub mod Shape
pub mod Spans
pub mod Strokes
