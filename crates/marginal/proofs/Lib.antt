pub mod Sums
pub mod Ranks
pub mod Storing
pub mod Running
