mod Alone
mod Alternatives
mod AskingLaws
mod BodyLaws
mod CutLaws
pub mod FollowLaws
mod FrontLaws
mod GivenLaws
pub mod HoldingLaws
mod KnownLaws
mod LengthLaws
mod Opposites
mod PartLaws
mod PlaceLaws
mod SpanLaws
mod TableLaws
mod TakenLaws
pub mod TakenValues
mod ValueLaws
