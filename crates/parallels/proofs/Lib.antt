pub mod Laws
pub mod Plans
pub mod Room
pub mod Steps
