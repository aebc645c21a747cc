pub mod ByValue
pub mod FromC
