pub mod LastRate
