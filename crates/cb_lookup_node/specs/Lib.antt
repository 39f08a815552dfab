pub mod Internal
pub mod LookupNodes
pub mod Order
