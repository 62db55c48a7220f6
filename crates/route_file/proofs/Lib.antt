pub mod Answering
pub mod Entries
pub mod Laws
pub mod Printed
pub mod Reading
