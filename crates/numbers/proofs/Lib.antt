pub mod ByNumber
pub mod Parts
pub mod Arrays
