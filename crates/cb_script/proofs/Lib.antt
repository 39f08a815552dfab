pub mod Endings
pub mod Following
pub mod Moves
