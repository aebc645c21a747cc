pub mod Minimum
pub mod Events
pub mod Lent
