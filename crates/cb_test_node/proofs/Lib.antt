pub mod Behind
pub mod Staying
