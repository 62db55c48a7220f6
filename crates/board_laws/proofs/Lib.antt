pub mod Demand
pub mod Fewest
pub mod Lit
pub mod Offers
pub mod Refused
pub mod Union
