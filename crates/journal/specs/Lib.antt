pub mod Viewed
pub mod Runs
