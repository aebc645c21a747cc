pub mod Viewed
pub mod Calls
pub mod Parts
pub mod ArrivalOrder
pub mod Previews
