pub mod ArrivalOrder
pub mod Previews
