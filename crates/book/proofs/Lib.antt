pub mod Mapped
pub mod Storing
pub mod Empty
pub mod Finding
pub mod Joining
pub mod Order
