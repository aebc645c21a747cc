pub mod Turns
pub mod Ends
pub mod Draws
pub mod Logs
