pub mod Halfway
pub mod Resting
