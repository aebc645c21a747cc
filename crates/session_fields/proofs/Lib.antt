pub mod Codes
pub mod Clock
