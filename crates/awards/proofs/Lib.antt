pub mod LastRate
pub mod Award
pub mod Loops
