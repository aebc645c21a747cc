pub mod Turns
pub mod Logs
