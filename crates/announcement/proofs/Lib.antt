pub mod Fields6G0
pub mod Parts
pub mod TenderTypes
