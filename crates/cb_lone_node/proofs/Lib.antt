pub mod Changed
pub mod Holding
pub mod Parents
pub mod Staying
