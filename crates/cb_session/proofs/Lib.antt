mod AskedLaws
mod CommandTurns
mod CutOffLaws
pub mod DeedLaws
mod Examples
mod FaultLaws
mod ItemLaws
mod ItemLineLaws
mod KeptPlaces
mod ListingLaws
mod OneOpen
pub mod OpenLaws
pub mod OpenTexts
pub mod PlaceLaws
mod RequestLaws
pub mod ScriptLaws
pub mod SoFarLaws
mod StepLaws
mod TurnLaws
mod WorldLaws
