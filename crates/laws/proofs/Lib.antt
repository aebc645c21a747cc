pub mod Tests
pub mod Arrays
