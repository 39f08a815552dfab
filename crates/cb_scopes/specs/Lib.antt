pub mod Compared
pub mod Decided
pub mod Scopes
