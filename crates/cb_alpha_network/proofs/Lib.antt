pub mod Calling
mod Changes
mod Counted
mod Filled
mod Found
mod LastPlaces
mod LooseShapes
mod Numbered
mod OneByOne
mod Order
mod Pieces
mod Rest
mod Searched
mod Shapes
mod SpotLaws
mod Users
