pub mod Changing
pub mod Fitting
pub mod Leaving
