pub mod Internal
pub mod MatchTables
