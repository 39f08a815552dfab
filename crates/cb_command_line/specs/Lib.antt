pub mod Commands
pub mod Internal
pub mod PlaceTexts
pub mod RanBy
pub mod Statuses
