pub mod Walk
pub mod Theorems
pub mod WalkRows
