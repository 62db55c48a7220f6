pub mod Histories
pub mod Offers
