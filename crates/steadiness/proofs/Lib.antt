pub mod Floors
pub mod Sums
pub mod ProRata
pub mod Raised
pub mod Steadiness
pub mod Reached
pub mod Previews
pub mod Rows
