pub mod Arrows
pub mod ChoiceLaws
pub mod CountLaws
mod Examples
pub mod KnownLaws
pub mod MemberLaws
pub mod MentionLaws
pub mod NameLaws
mod PatternExamples
mod PlaceLaws
pub mod RowLaws
pub mod SlotLaws
pub mod WayLaws
pub mod WrittenLaws
