pub mod Lines
pub mod Steps
pub mod Theorems
pub mod Sessions
