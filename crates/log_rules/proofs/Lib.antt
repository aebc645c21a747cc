pub mod Fields
pub mod Walks
pub mod Codes
pub mod Sessions
pub mod Keeping
