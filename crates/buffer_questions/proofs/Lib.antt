pub mod Codes
pub mod Tender
pub mod Held
