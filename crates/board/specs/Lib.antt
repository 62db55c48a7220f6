pub mod Boards
pub mod Fronts
pub mod Runs
