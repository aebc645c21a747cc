pub mod Bids
