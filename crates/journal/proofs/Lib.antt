pub mod Kept
pub mod Running
pub mod Logging
pub mod Whole
