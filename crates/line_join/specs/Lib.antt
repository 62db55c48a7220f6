pub mod Answers
pub mod Caps
pub mod Join
pub mod Miter
pub mod Origins
pub mod Standing
pub mod Words
pub mod Sides
