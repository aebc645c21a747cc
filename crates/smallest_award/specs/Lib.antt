pub mod SmallestAward
pub mod Theorems
