pub mod Internal
pub mod MatchIndices
