pub mod Endings
pub mod Told
