pub mod Refusals
pub mod Application
pub mod Writing
pub mod ReturnTrip
pub mod Promise
