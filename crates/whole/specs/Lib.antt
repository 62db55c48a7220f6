pub mod Columns
pub mod Divided
pub mod Number
pub mod Places
pub mod Rounded
