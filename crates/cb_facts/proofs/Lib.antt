mod CountLaws
pub mod Equality
pub mod FactEquality
mod FactListLaws
pub mod FirstFaults
mod Hashes
pub mod Inverses
pub mod MemberLaws
mod PartLaws
mod PlaceLaws
mod ShortNames
