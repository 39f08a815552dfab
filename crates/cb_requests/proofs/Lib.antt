mod Examples
pub mod GlobalLaws
pub mod Globals
pub mod Readings
