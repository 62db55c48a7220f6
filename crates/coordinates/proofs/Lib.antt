pub mod Laws
pub mod Lists
pub mod Neighbours
pub mod Places
pub mod Refused
