pub mod SmallestAward
pub mod Given
pub mod Theorems
