pub mod Submission
