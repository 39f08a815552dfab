pub mod Internal
pub mod Nodes
pub mod Outer
