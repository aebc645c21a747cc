pub mod Announcement
pub mod Parts
