pub mod Outcomes
pub mod Ran
pub mod Runs
