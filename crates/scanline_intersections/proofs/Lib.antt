pub mod Entries
pub mod Handing
pub mod Merging
pub mod Polyline
pub mod Refused
pub mod Spans
pub mod Steps
