pub mod Comparing
pub mod Decided
pub mod Made
pub mod Scoped
