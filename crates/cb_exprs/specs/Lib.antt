pub mod Bindings
pub mod FactTerms
pub mod GlobalTerms
pub mod Internal
pub mod Shapes
pub mod Terms
