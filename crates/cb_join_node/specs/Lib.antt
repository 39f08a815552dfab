pub mod Bounds
pub mod Filings
pub mod Joins
pub mod KnownValues
pub mod Meetings
pub mod Nodes
