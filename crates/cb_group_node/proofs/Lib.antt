pub mod Beginnings
pub mod Changed
pub mod Filing
pub mod Meeting
pub mod Settled
pub mod Staying
pub mod Touching
pub mod Within
