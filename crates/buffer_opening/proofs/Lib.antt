pub mod Writing
pub mod Opened
pub mod Opening
