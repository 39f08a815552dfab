pub mod Memories
pub mod Modified
pub mod Naming
pub mod Running
pub mod Reached
pub mod Words
pub mod Firing
