pub mod Allotted
pub mod Given
