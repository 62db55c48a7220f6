pub mod Cases
pub mod Doubled
pub mod Worked
