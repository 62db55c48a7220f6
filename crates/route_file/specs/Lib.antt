pub mod Answers
pub mod Form
pub mod Numbers
