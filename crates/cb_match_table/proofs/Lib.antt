pub mod Equality
pub mod EntriesLeft
mod FilingLaws
