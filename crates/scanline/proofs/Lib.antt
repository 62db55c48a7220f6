pub mod Answers
pub mod Choices
pub mod Folds
pub mod Laws
pub mod Printed
pub mod Rows
