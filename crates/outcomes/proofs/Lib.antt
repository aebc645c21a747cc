pub mod Reading
pub mod Checking
pub mod Outcomes
pub mod Allotting
pub mod Answering
pub mod Awarding
