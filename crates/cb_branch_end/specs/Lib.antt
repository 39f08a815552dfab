pub mod Internal
pub mod TellingKeys
