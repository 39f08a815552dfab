pub mod AlphaMemories
pub mod Buckets
pub mod Internal
pub mod JoinValues
pub mod Mixes
pub mod Turning
