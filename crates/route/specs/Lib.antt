pub mod Answers
pub mod Joined
pub mod Rows
pub mod Words
