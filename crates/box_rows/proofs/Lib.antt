pub mod Boxes
pub mod Same
pub mod Thinnest
