pub mod Mixes
pub mod NumberMaps
pub mod Slots
pub mod Filed
pub mod Internal
