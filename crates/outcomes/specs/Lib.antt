pub mod Outcomes
pub mod Allotting
pub mod Answers
