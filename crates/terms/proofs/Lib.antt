pub mod Codes
pub mod Forming
