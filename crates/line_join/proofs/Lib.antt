pub mod Answers
pub mod Laws
pub mod Meeting
pub mod Named
pub mod Room
pub mod Standing
pub mod Traced
