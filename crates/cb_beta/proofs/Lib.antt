mod FoundBy
pub mod Live
mod LiveNumbers
pub mod Losses
mod Marking
pub mod Members
pub mod Values
