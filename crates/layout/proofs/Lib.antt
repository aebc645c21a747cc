pub mod Fields
pub mod ReturnTrip
pub mod Fixed
pub mod Ends
