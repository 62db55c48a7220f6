pub mod Answers
pub mod Meeting
pub mod Printed
pub mod Rows
pub mod Spans
pub mod Words
