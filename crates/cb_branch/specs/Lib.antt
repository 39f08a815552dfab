pub mod Alphas
pub mod Branches
pub mod Entries
pub mod Internal
pub mod Nodes
pub mod Patterns
pub mod Ready
pub mod Turning
