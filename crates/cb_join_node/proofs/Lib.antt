pub mod Agreement
pub mod Bounds
mod Decided
pub mod Changing
mod Meeting
pub mod Refiled
pub mod Staying
pub mod Tokens
pub mod Turning
mod Untouched
