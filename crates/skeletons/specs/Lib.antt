pub mod Treads
