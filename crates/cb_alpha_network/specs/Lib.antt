pub mod Asked
pub mod Codes
pub mod Internal
pub mod KeptPlaces
pub mod LastPlaces
pub mod Networks
pub mod Places
pub mod Wanted
