pub mod Adding
pub mod Bytes
pub mod Parting
pub mod Parts
pub mod Text
pub mod Words
