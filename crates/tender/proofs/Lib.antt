pub mod Changing
pub mod Answering
pub mod Opening
pub mod ArrivalOrder
pub mod Allotting
pub mod Previews
