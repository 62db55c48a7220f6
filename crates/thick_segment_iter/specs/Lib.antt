pub mod Printed
pub mod Walks
