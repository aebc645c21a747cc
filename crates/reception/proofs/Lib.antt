pub mod Admission
pub mod Listing
pub mod Submission
pub mod Judging
