pub mod ByNumber
pub mod Numbers
pub mod Codes
