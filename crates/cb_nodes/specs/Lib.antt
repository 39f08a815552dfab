pub mod Changes
pub mod Flat
pub mod Lists
pub mod Patterns
