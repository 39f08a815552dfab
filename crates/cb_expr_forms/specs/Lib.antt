pub mod Actions
pub mod Bound
pub mod ExprFaults
pub mod ExprForms
pub mod Internal
pub mod Laws
pub mod Scopes
pub mod Variables
