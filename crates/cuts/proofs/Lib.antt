pub mod Above
pub mod Places
pub mod Walked
