pub mod Interface
pub mod Rates
