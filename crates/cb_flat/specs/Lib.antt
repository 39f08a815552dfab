pub mod Joined
pub mod Sources
pub mod Taking
