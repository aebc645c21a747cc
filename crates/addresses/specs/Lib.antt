pub mod Addresses
pub mod ReturnTrip
