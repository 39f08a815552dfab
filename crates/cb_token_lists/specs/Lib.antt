pub mod Growth
pub mod Internal
pub mod Keeping
pub mod Partials
pub mod Turns
