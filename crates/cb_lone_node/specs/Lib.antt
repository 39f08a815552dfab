pub mod Internal
pub mod LoneNodes
