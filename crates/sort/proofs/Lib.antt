pub mod Sorting
pub mod Swaps
