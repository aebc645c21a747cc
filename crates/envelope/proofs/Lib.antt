pub mod Fields6G1
pub mod Writing
pub mod ReturnTrip
pub mod Promise
